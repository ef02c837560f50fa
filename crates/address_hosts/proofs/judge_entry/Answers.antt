-- `address_hosts::judge_entry` meets its contract.
use Rattle.address_hosts.proofs.HostLaws.{no_host, one_host}
use Rattle.address_hosts.proofs.judge_entry.Goals as goal

pub returns-in-None : goal.returns-in-None
returns-in-None c = no_host c.args.host.now c.args.entry.now c.in-None.ensures

pub returns-in-Some : goal.returns-in-Some
returns-in-Some c = rw (← c.same_text.ensures, c.if-same_text.true) at (one_host c.args.host.now c.args.entry.now c.in-Some.found.now c.in-Some.ensures.0)

pub returns-in-Some-2 : goal.returns-in-Some-2
returns-in-Some-2 c = rw (← c.same_text.ensures, c.if-same_text.false) at (one_host c.args.host.now c.args.entry.now c.in-Some.found.now c.in-Some.ensures.0)
