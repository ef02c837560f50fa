-- The claims on a final dot hold.
use Rattle.std.specs.Prelude.{Some}
use mathlib.Core.Path.{◌≡◌}
use mathlib.Core.List.{List}
use mathlib.Core.Bool.{true}
use Rattle.octets.specs.Octets.{all}
use Rattle.lookup.specs.Lookup.{Name, names, member, list}
use Rattle.lookup.proofs.NameLaws.{member_append, member_last}
use Rattle.lookup.proofs.ReadingLaws.{list_reading}
use Rattle.domain.specs.Domain.{Domain, without_dot, is_domain}
use Rattle.domain.proofs.DotLaws.{dropped, taken}
use Rattle.txt.specs.Answers.{Answer, lookup_error, reply}
use Rattle.asking.specs.Asking.{Asking, now_asked, asked_names, take_asked, take}
use Rattle.asking.proofs.Completing.{completed, completes}
use Rattle.verdict.specs.Message.{Message}
use Rattle.verdict.specs.Verdict.{evaluate, separate_walks}
use Rattle.verdict.proofs.AskedNames.{message_domains, listed_undotted}
use Rattle.book.specs.Start.{identifier_from, opening, Opened, adding}
use Rattle.book.specs.Book.{Call, walks, book_answer}
use Rattle.book.specs.BookClaims.{book_after}
use Rattle.book.specs.FinalDot.{SameStart, OneName}
use Rattle.book.proofs.StartLaws.{Sound}
use Rattle.book.proofs.BookLaws.{kept_after, run_claims}

pub same_start : (d : Domain) → SameStart d
unfolding opening adding identifier_from
same_start d = record {
  author = λ e existence support. rw (dropped d, (taken d).kept e);
  identifier = λ e m kind outcome. rw (dropped d, (taken d).kept e);
}

sound_domains : (m : Message) → Sound m → all is_domain (message_domains m) ≡ true
unfolding message_domains all
sound_domains m s = rw (s.author, s.others)

asked_undotted : (m : Message) (cs : List Call) → Opened m → (n : Name) → member n (asked_names (book_after m cs).run) ≡ true → without_dot n ≡ n
unfolding walks separate_walks
asked_undotted m cs o n e =
    let b = book_after m cs in
    let α : (n : Name) → Answer = completed b.run.taken (λ _. lookup_error) in
    let (rest, f) = (run_claims m o cs).until_then α (completes b.run.taken (λ _. lookup_error)) in
    let h : member n (list α (separate_walks b.message)) ≡ true = rw f (member_append n (asked_names b.run) rest e) in
    listed_undotted b.message (sound_domains b.message (kept_after m o cs).sound) (λ n. reply (α n)) n (rw (list_reading reply α (evaluate b.message)) at h)

now_member : (s : Asking Answer) (n : Name) → s.asked ≡ Some n → member n (asked_names s) ≡ true
unfolding asked_names now_asked
now_member s n e = rw e (member_last n (names s.taken))

pub one_name : (m : Message) (cs : List Call) → OneName m cs
unfolding book_answer take take_asked
one_name m cs = record {
  no_dot = asked_undotted m cs;
  either = λ o n e status bytes scratch. rw (e, dropped n, asked_undotted m cs o n (now_member (book_after m cs).run n e));
}
