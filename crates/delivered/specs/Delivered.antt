-- All that is claimed. A claim that is taken back, here or in the crate that proves it, is missed by the proof of this record.
use Rattle.claims.specs.Rules.{RulesHold}
use Rattle.claims.specs.Verdicts.{VerdictsHold}
use Rattle.claims.specs.Calls.{CallsHold}
use Rattle.claims.specs.Requests.{RequestsHold}
use Rattle.delivered.specs.Received.{TextsRead, CallsRead}

pub record Delivered : Type 1 where
  -- document 01's rules: names, answers, walks, sheets
  pub rules : RulesHold
  -- demand 2
  pub verdicts : VerdictsHold
  -- demand 3
  pub calls : CallsHold
  -- document 02's requests
  pub requests : RequestsHold
  -- of these, Ask 10: texts, and lists of calls
  pub received_texts : TextsRead
  pub received_parts : CallsRead
