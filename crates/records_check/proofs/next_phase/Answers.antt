-- `records_check::next_phase` meets its contract, by what may follow.
use Rattle.records_check.proofs.ScanningLaws.{following, told, author_late, identifier_late, wrong_follows}
use Rattle.records_check.proofs.next_phase.Goals as goal

pub returns-in-Author-Author : goal.returns-in-Author-Author
unfolding following
returns-in-Author-Author c = let a = c.args in told a.place a.phase a.kind (rw (c.in-Author-Author.is-0, c.in-Author-Author.is-1))

pub returns-in-Identifier-Identifiers : goal.returns-in-Identifier-Identifiers
unfolding following
returns-in-Identifier-Identifiers c = let a = c.args in told a.place a.phase a.kind (rw (c.in-Identifier-Identifiers.is-0, c.in-Identifier-Identifiers.is-1))

pub returns-in-Answer-Identifiers : goal.returns-in-Answer-Identifiers
unfolding following
returns-in-Answer-Identifiers c = let a = c.args in told a.place a.phase a.kind (rw (c.in-Answer-Identifiers.is-0, c.in-Answer-Identifiers.is-1))

pub returns-in-Answer-Answers : goal.returns-in-Answer-Answers
unfolding following
returns-in-Answer-Answers c = let a = c.args in told a.place a.phase a.kind (rw (c.in-Answer-Answers.is-0, c.in-Answer-Answers.is-1))

pub returns-in_default : goal.returns-in_default
returns-in_default c = let a = c.args in told a.place a.phase a.kind (rw c.in_default.is-0 (author_late a.place a.phase c.in_default.not-Author-1))

pub returns-in_default-2 : goal.returns-in_default-2
returns-in_default-2 c = let a = c.args in told a.place a.phase a.kind (rw c.in_default.is-0 (identifier_late a.place a.phase c.in_default.not-Identifiers-1))

pub returns-in_default-3 : goal.returns-in_default-3
unfolding following
returns-in_default-3 c = let a = c.args in told a.place a.phase a.kind (rw (c.in_default.is-0, c.in_default.is-1))

pub returns-in_default-4 : goal.returns-in_default-4
returns-in_default-4 c = let a = c.args in told a.place a.phase a.kind (rw c.in_default.is-0 (wrong_follows a.place a.phase))
