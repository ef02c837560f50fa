-- All definitions of this crate opened at once, for theorems that are closed by computation.
use Rattle.walk.proofs.Computing.{walk_computes}
use Rattle.asking.proofs.Computing.{asking_computes}
use Rattle.address.specs.Address.{after_last, host_in, is_mailto, host_of, add_host, hosts_of, rua_hosts, by_hosts, agreement, confirmation, confirming_name, confirm, organization, by_host, by_policy, check}
use Rattle.address.specs.Checks.{check_started, nothing_started, check_lookups, start_by, with_run, next_of, result_in, check_call}
use Rattle.address.specs.Claims.{check_gave}

unfoldable pub address_computes : Unit {0}
unfolding walk_computes asking_computes after_last host_in is_mailto host_of add_host hosts_of rua_hosts by_hosts agreement confirmation confirming_name confirm organization by_host by_policy check check_started nothing_started check_lookups start_by with_run next_of result_in check_call check_gave
address_computes = tt
