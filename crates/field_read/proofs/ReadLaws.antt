-- Laws of reading a field octet by octet.
use Rattle.std.specs.Prelude.{Ok, Err}
use mathlib.Core.Path.{◌≡◌, sym, ap, ◌∙◌}
use mathlib.Core.List.{◌∷◌}
use Prim.Native.Nat.{ℕ, suc, ◌+◌, ◌-◌, ◌≤◌, ◌<◌}
use native.Mathlib.Numerals.{add-one}
use lib.ListN.{length, drop, get_or, drop_of_length-le}
use lib.Seq.{drop-cons}
use Rattle.octets.specs.Octets.{Octets}
use Rattle.octets.specs.Refusing.{refusal}
use Rattle.field.specs.code.Reading.{read_field}
use Rattle.field.specs.Numbers.{field_answer, field_read}
use Rattle.field_states.specs.declared.State.{State}
use Rattle.field_states.specs.declared.Reader.{Reader}
use Rattle.field_states.specs.declared.Misread.{Misread}
use Rattle.std.specs.Prelude.{Ok, Err}
use Rattle.field_states.specs.code.States.{reader, turn, ended, run_reader, start}
use Rattle.field_states.proofs.RunLaws.{run_on, run_wrong, run_deep, run_again, reads}

-- what is left to read says what the whole says
abbrev pub Reads : Octets → Reader → ℕ → Type 0
Reads s r at = read_field s ≡ run_reader at r (drop at s)

pub begins : (s : Octets) → Reads s start 0
begins s = sym (reads s)

module _ (s : Octets) (r : Reader) (at : ℕ) (h : Reads s r at) where
  module _ (i : at < length s) where
    next : run_reader at r (drop at s) ≡ run_reader at r (get_or s at 0 ∷ drop (suc at) s)
    next = ap (run_reader at r) (drop-cons s at 0 i)

    pub goes_on : (q : Reader) → turn r (get_or s at 0) ≡ Ok q → Reads s q (at + 1)
    goes_on q e = rw (add-one at) (h ∙ next ∙ run_on r (get_or s at 0) at (drop (suc at) s) q e)

    pub is_wrong : turn r (get_or s at 0) ≡ Err Misread.Wrong → field_read s ≡ Err (refusal 24 at)
    unfolding field_read field_answer
    is_wrong e = ap field_answer (h ∙ next ∙ run_wrong r (get_or s at 0) at (drop (suc at) s) e)

    pub is_deep : turn r (get_or s at 0) ≡ Err Misread.TooDeep → field_read s ≡ Err (refusal 25 at)
    unfolding field_read field_answer
    is_deep e = ap field_answer (h ∙ next ∙ run_deep r (get_or s at 0) at (drop (suc at) s) e)

    pub is_again : (n : ℕ) → turn r (get_or s at 0) ≡ Err (Misread.Again n) → field_read s ≡ Err (refusal 26 (at + 1 - n))
    unfolding field_read field_answer
    is_again n e = ap field_answer (h ∙ next ∙ run_again r (get_or s at 0) at (drop (suc at) s) n e)

  pub is_over : length s ≤ at → field_read s ≡ field_answer (ended at r)
  unfolding field_read run_reader
  is_over i = ap field_answer (h ∙ ap (run_reader at r) (drop_of_length-le s i))

-- a reader in a state
pub same_turn : (r : Reader) (q : State) (x : ℕ) → r.state ≡ q → turn r x ≡ turn (reader q r.dkim r.spf) x
unfolding reader
same_turn r q x e = ap (λ z. turn (reader z r.dkim r.spf) x) e
