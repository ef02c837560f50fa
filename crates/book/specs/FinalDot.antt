-- What is claimed of a final dot at an opening and an adding, and in the list of names asked (document 02, Ask 5).
use Rattle.std.specs.Prelude.{◌≡◌, List, ◌++◌, true, ℕ, Some}
use Rattle.octets.specs.Octets.{Octets, octets}
use Rattle.lookup.specs.Lookup.{Name, member}
use Rattle.domain.specs.Domain.{Domain, without_dot, is_domain}
use Rattle.txt.specs.declared.Status.{Status}
use Rattle.asking.specs.Asking.{asked_names}
use Rattle.verdict.specs.Message.{Message}
use Rattle.book.specs.Start.{opening, Opened, adding}
use Rattle.book.specs.Book.{Call, book_answer}
use Rattle.book.specs.BookClaims.{book_after}

-- "every domain we take" may "end in one dot": with it, an opening and an adding are what they are without
pub record SameStart (d : Domain) : Type 0 where
  pub author : is_domain d ≡ true → (existence support : ℕ) → opening (d ++ octets ".") existence support ≡ opening d existence support
  pub identifier : is_domain d ≡ true → (m : Message) (kind outcome : ℕ)
      → adding m (record { kind = kind; outcome = outcome; domain = d ++ octets "." }) ≡ adding m (record { kind = kind; outcome = outcome; domain = d })

-- "`example.com` and `example.com.` are one name in demand 3's list", after every opening that is accepted
pub record OneName (m : Message) (cs : List Call) : Type 0 where
  -- no name of the list ends in a dot
  pub no_dot : Opened m → (n : Name) → member n (asked_names (book_after m cs).run) ≡ true → without_dot n ≡ n
  -- and an answer for the name now asked does the same if a dot is put to it
  pub either : Opened m → (n : Name) → (book_after m cs).run.asked ≡ Some n → (status : Status) (bytes scratch : Octets)
      → book_answer (book_after m cs) (n ++ octets ".") status bytes scratch ≡ book_answer (book_after m cs) n status bytes scratch
