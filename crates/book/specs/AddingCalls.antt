-- Lists of calls with addings among them, and what each call gives back (document 02, Ask 8).
use Rattle.std.specs.Prelude.{◌≡◌, List, [], ◌∷◌, ◌++◌, map, ℕ, replicate}
use Prim.Native.String.{String}
use Rattle.octets.specs.Octets.{octets}
use Rattle.octets.specs.Refusing.{OrRefused, ok, not_ok, refusal}
use Rattle.txt.specs.declared.Status.{Status}
use Rattle.asking.specs.Asking.{Back, ask_name, accepted, refused}
use Rattle.verdict.specs.Message.{Message}
use Rattle.verdict.specs.Verdict.{Verdict}
use Rattle.book.specs.Start.{opening}
use Rattle.book.specs.Book.{Call, add, next, result, answer, field}
use Rattle.book.specs.BookClaims.{book_gave}

-- an identifier with outcome pass
abbrev adds : (kind : ℕ) → String → Call
adds k d = add (record { kind = k; outcome = 1; domain = octets d })

unfoldable pub backs_by : List Call → OrRefused Message → List (Back Verdict)
backs_by cs (ok m) = map (λ g. g.back) (book_gave m cs)
backs_by cs (not_ok f) = refused f ∷ []

-- what calls give back after an opening with author example.com
unfoldable pub backs : List Call → List (Back Verdict)
backs cs = backs_by cs (opening (octets "example.com") 1 1)

pub record AddingCalls : Type 0 where
  -- a refused adding takes no index: the next one has it
  pub index_kept : backs (adds 0 "a.example" ∷ adds 0 "b.example" ∷ adds 1 "b..example" ∷ adds 2 "b.example" ∷ adds 1 "b.example" ∷ adds 0 "c.example" ∷ [])
      ≡ accepted ∷ refused (refusal 4 1) ∷ refused (refusal 2 1) ∷ refused (refusal 3 1) ∷ accepted ∷ refused (refusal 4 2) ∷ []
  -- "a 17th identifier": 3 comes before 4
  pub seventeenth : backs (replicate 16 (adds 1 "a.example") ++ (adds 1 "a.example" ∷ adds 2 "a.example" ∷ []))
      ≡ replicate 16 accepted ++ (refused (refusal 4 16) ∷ refused (refusal 3 16) ∷ [])
  -- a refused result, field or answer closes nothing; a name does, and then 17 comes before 3, 4 and 2
  pub closed_by_a_name : backs (result ∷ field [] ∷ answer (octets "_dmarc.example.com") Status.NoRecords [] [] ∷ adds 1 "a.example" ∷ next ∷ adds 1 "b.example" ∷ adds 7 "" ∷ [])
      ≡ refused (refusal 7 0) ∷ refused (refusal 7 0) ∷ refused (refusal 5 0) ∷ accepted ∷ ask_name (octets "_dmarc.example.com") ∷ refused (refusal 17 0) ∷ refused (refusal 17 0) ∷ []
