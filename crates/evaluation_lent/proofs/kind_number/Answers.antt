-- `evaluation_lent::kind_number` meets its contract.
use Rattle.evaluation_numbers.specs.Numbers.{place_kind_in}
use borrow.Author.Rules.{rules}
use Rattle.evaluation_lent.proofs.kind_number.Goals as goal

pub returns-in-OwnName : goal.returns-in-OwnName
unfolding place_kind_in
returns-in-OwnName c = search rules

pub returns-in-Author : goal.returns-in-Author
unfolding place_kind_in
returns-in-Author c = search rules

pub returns-in-Completing : goal.returns-in-Completing
unfolding place_kind_in
returns-in-Completing c = search rules

pub returns-in-Identifier : goal.returns-in-Identifier
unfolding place_kind_in
returns-in-Identifier c = search rules

pub returns-in-NotKnown : goal.returns-in-NotKnown
unfolding place_kind_in
returns-in-NotKnown c = search rules

pub returns-in-NoRecord : goal.returns-in-NoRecord
unfolding place_kind_in
returns-in-NoRecord c = search rules

pub returns-in-NotUsable : goal.returns-in-NotUsable
unfolding place_kind_in
returns-in-NotUsable c = search rules

pub returns-in-Judged : goal.returns-in-Judged
unfolding place_kind_in
returns-in-Judged c = search rules
