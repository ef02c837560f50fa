-- `address_point::number_kind` meets its contract.
use Rattle.address_check.specs.code.View.{point_kind_in}
use Rattle.address_point.proofs.number_kind.Goals as goal

pub returns-in-Policy : goal.returns-in-Policy
unfolding point_kind_in
returns-in-Policy c = rw c.in-Policy.is

pub returns-in-Host : goal.returns-in-Host
unfolding point_kind_in
returns-in-Host c = rw c.in-Host.is

pub returns-in-Confirming : goal.returns-in-Confirming
unfolding point_kind_in
returns-in-Confirming c = rw c.in-Confirming.is

pub returns-in-PlainNo : goal.returns-in-PlainNo
unfolding point_kind_in
returns-in-PlainNo c = rw c.in-PlainNo.is

pub returns-in-Inside : goal.returns-in-Inside
unfolding point_kind_in
returns-in-Inside c = rw c.in-Inside.is

pub returns-in-Confirmed : goal.returns-in-Confirmed
unfolding point_kind_in
returns-in-Confirmed c = rw c.in-Confirmed.is

pub returns-in-Replaced : goal.returns-in-Replaced
unfolding point_kind_in
returns-in-Replaced c = rw c.in-Replaced.is

pub returns-in-NotKnown : goal.returns-in-NotKnown
unfolding point_kind_in
returns-in-NotKnown c = rw c.in-NotKnown.is
