-- `address_point::read_kind` meets its contract.
use native.Mathlib.Omega.{arith}
use Rattle.address_check.specs.code.View.{point_kind_in}
use Rattle.address_point.proofs.KindLaws.{not_listed}
use Rattle.address_point.proofs.read_kind.Goals as goal

pub returns-in-0 : goal.returns-in-0
unfolding point_kind_in
returns-in-0 c = rw c.in-0.is

pub returns-in-1 : goal.returns-in-1
unfolding point_kind_in
returns-in-1 c = rw c.in-1.is

pub returns-in-2 : goal.returns-in-2
unfolding point_kind_in
returns-in-2 c = rw c.in-2.is

pub returns-in-3 : goal.returns-in-3
unfolding point_kind_in
returns-in-3 c = rw c.in-3.is

pub returns-in-4 : goal.returns-in-4
unfolding point_kind_in
returns-in-4 c = rw c.in-4.is

pub returns-in-5 : goal.returns-in-5
unfolding point_kind_in
returns-in-5 c = rw c.in-5.is

pub returns-in-6 : goal.returns-in-6
unfolding point_kind_in
returns-in-6 c = rw c.in-6.is

pub returns-in_default : goal.returns-in_default
returns-in_default c =
    not_listed c.args.n (λ e. omega arith) (λ e. omega arith) (λ e. omega arith) (λ e. omega arith) (λ e. omega arith) (λ e. omega arith) (λ e. omega arith)
