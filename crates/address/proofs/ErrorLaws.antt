-- After an error nothing more is asked.
use mathlib.Core.Path.{◌≡◌, refl, ap, sym, ◌∙◌}
use mathlib.Core.List.{List, [], ◌∷◌, ◌++◌}
use mathlib.Core.Bool.{Bool, true, false, ◌||◌, false≢true}
use Prim.Native.Nat.{ℕ, ◌+◌}
use lib.Dec.{leb}
use lib.ListN.{length}
use Rattle.std.specs.Prelude.{if◌then◌else◌, Some, None, Option, option_map}
use Rattle.octets.specs.Octets.{Octets, any, all, same}
use Rattle.octets.proofs.ListLaws.{any_append}
use Rattle.lookup.specs.Lookup.{Name, Lookups, done, ask, look_up, reading, ◌>>=◌, Answers, find, needs, has, run, run_over, Grown, start, grow}
use Rattle.lookup.proofs.RunLaws.{find_append, find_new, run_known, run_open, needs_injective, has≢needs}
use Rattle.domain.specs.Domain.{Domain, targets, can_ask, asked_name}
use Rattle.txt.specs.declared.Reply.{Reply}
use Rattle.txt.specs.Answers.{Answer, records, no_records, lookup_error, texts_read, policy_records, single, reply_of_texts, reply}
use Rattle.policy.specs.declared.Settings.{Settings}
use Rattle.policy.specs.declared.Bounds.{Bounds}
use Rattle.policy.specs.Records.{read_policy, rua_begin, rua_length}
use Rattle.walk.specs.Walk.{record_at, Walked, ends_walk, go_on, found, walk_over, walk, organizational, organizational_domain}
use Rattle.walk.specs.Claims.{is_error}
use Rattle.address.specs.declared.Agreement.{Agreement}
use Rattle.address.specs.Address.{by_hosts, agreement, confirmation, confirming_name, confirm, organization, by_host, by_policy, check}
use Rattle.address.specs.Claims.{says_not_known}

-- ------------------------------------------------------------------ programs that a bad answer ends

-- with this value, at whatever name it comes
unfoldable EndsWith : {R A : Type 0} → (bad : R → Bool) → A → Lookups R A → Type 0
EndsWith bad w (done a) = Unit
EndsWith {R} bad w (ask n k) = ((r : R) → bad r ≡ true → k r ≡ done w) × ((r : R) → EndsWith bad w (k r))

module _ {R A B : Type 0} (bad : R → Bool) (v : A) (w : B) where
  ends_bind : (t : Lookups R A) (f : A → Lookups R B) → EndsWith bad v t → f v ≡ done w → ((a : A) → EndsWith bad w (f a)) → EndsWith bad w (t >>= f)
  unfolding EndsWith ◌>>=◌
  ends_bind (done a) f e g h = h a
  ends_bind (ask n k) f e g h = (λ r b. ap (λ t. t >>= f) (e.0 r b) ∙ g, λ r. ends_bind (k r) f (e.1 r) g h)

ends_if : {R A : Type 0} (bad : R → Bool) (w : A) (b : Bool) (t u : Lookups R A) → EndsWith bad w t → EndsWith bad w u → EndsWith bad w (if b then t else u)
ends_if bad w true t u e f = e
ends_if bad w false t u e f = f

ends_reading : {Q R A : Type 0} (bad : R → Bool) (w : A) (f : Q → R) (t : Lookups R A) → EndsWith bad w t → EndsWith (λ q. bad (f q)) w (reading f t)
unfolding EndsWith reading
ends_reading bad w f (done a) e = tt
ends_reading bad w f (ask n k) e = (λ q b. ap (reading f) (e.0 (f q) b), λ q. ends_reading bad w f (k (f q)) (e.1 (f q)))

-- ------------------------------------------------------------------ the walks of 01

an_error : (r : Reply) → is_error r ≡ true → r ≡ Reply.Error
unfolding is_error
an_error Reply.Error e = refl
an_error Reply.NoRecord e = absurd (false≢true e)
an_error (Reply.Record s) e = absurd (false≢true e)

ends_record : (d : Domain) → EndsWith is_error Reply.Error (record_at d)
unfolding record_at EndsWith ◌>>=◌
ends_record d = ends_if is_error Reply.Error (can_ask d) (look_up (asked_name d)) (done Reply.NoRecord) (λ r e. ap done (an_error r e), λ r. tt) tt

ends_go_on : (d : Domain) (r : Reply) (rest : Lookups Reply Walked) → EndsWith is_error None rest → EndsWith is_error None (go_on d r rest)
unfolding go_on EndsWith
ends_go_on d Reply.Error rest e = tt
ends_go_on d Reply.NoRecord rest e = e
ends_go_on d (Reply.Record s) rest e = ends_if is_error None (ends_walk s.psd) _ _ tt (ends_bind is_error None None rest (λ fs. done (option_map (λ l. found d s ∷ l) fs)) e refl (λ fs. tt))

ends_walk_over : (ds : List Domain) → EndsWith is_error None (walk_over ds)
unfolding walk_over EndsWith go_on
ends_walk_over [] = tt
ends_walk_over (d ∷ ds) = ends_bind is_error Reply.Error None (record_at d) _ (ends_record d) refl (λ r. ends_go_on d r (walk_over ds) (ends_walk_over ds))

ends_organization : (d : Domain) → EndsWith (λ a. is_error (reply a)) None (organization d)
unfolding organization organizational_domain walk EndsWith
ends_organization d =
    ends_reading is_error None reply (organizational_domain d)
    (ends_bind is_error None None (walk d) (λ fs. done (option_map (organizational d) fs)) (ends_walk_over (targets d)) refl (λ fs. tt))

-- ------------------------------------------------------------------ the check

single_reply : (l : List Settings) → is_error (single l) ≡ false
unfolding single is_error
single_reply [] = refl
single_reply (s ∷ []) = refl
single_reply (s ∷ r ∷ l) = refl

error_unknown : (h : Domain) (a : Answer) → is_error (reply a) ≡ true → confirmation h a ≡ Agreement.NotKnown
unfolding confirmation reply reply_of_texts is_error
error_unknown h (records bytes) e = go (texts_read bytes) e
  where
    go : (o : Option (List Octets)) → is_error (reply_of_texts o) ≡ true → elim o as (λ _. Agreement) [ None ↦ Agreement.NotKnown | Some ts ↦ agreement h 0 false ts ] ≡ Agreement.NotKnown
    go None e = refl
    go (Some ts) e = absurd (false≢true (sym (single_reply (policy_records ts)) ∙ e))
error_unknown h no_records e = absurd (false≢true e)
error_unknown h lookup_error e = refl

-- what the texts of an answer say is a plain no, confirmed or replaced: a test that is false of these three is false of it
module _ (h : Domain) (f : Agreement → Bool) (no : f Agreement.PlainNo ≡ false) (yes : f Agreement.Confirmed ≡ false) (other : (b : Bounds) → f (Agreement.Replaced b) ≡ false) where
  either_says : (b : Bool) (u v : Agreement) → f u ≡ false → f v ≡ false → f (if b then u else v) ≡ false
  either_says true u v e g = e
  either_says false u v e g = g

  hosts_say : (at : ℕ) (t : Octets) (hs : List Domain) (others : Agreement) → f others ≡ false → f (by_hosts h at t hs others) ≡ false
  unfolding by_hosts
  hosts_say at t [] others e = e
  hosts_say at t (x ∷ xs) others e =
      either_says (all (same h) (x ∷ xs)) (Agreement.Replaced (record { begin = at + rua_begin t; length = rua_length t })) Agreement.PlainNo (other _) no

  pub texts_say : (at : ℕ) (one : Bool) (ts : List Octets) → f (agreement h at one ts) ≡ false
  unfolding agreement
  texts_say at one [] = either_says one _ _ yes no
  texts_say at one (t ∷ ts) = go (λ a o. texts_say a o ts) (read_policy t) refl
    where
      go : ((a : ℕ) (o : Bool) → f (agreement h a o ts) ≡ false) → (r : Option Settings) → read_policy t ≡ r → f (agreement h at one (t ∷ ts)) ≡ false
      go ih (Some s) e = rw (e, agreement) (hosts_say at t _ _ (ih _ _))
      go ih None e = rw (e, agreement) (ih _ _)

-- not known exactly by an answer that is an error
pub unknown_exactly : (h : Domain) (a : Answer) → says_not_known (confirmation h a) ≡ is_error (reply a)
unfolding confirmation reply reply_of_texts is_error says_not_known
unknown_exactly h (records bytes) =
    elim (texts_read bytes) as (λ o. says_not_known (elim o as (λ _. Agreement) [ None ↦ Agreement.NotKnown | Some ts ↦ agreement h 0 false ts ]) ≡ is_error (reply_of_texts o)) [
      | None ↦ refl
      | Some ts ↦ texts_say h says_not_known refl refl (λ b. refl) 0 false ts ∙ sym (single_reply (policy_records ts))
    ]
unknown_exactly h no_records = refl
unknown_exactly h lookup_error = refl

module _ (p h : Domain) where
  bad : Answer → Bool
  bad a = is_error (reply a)

  ends_confirm : EndsWith bad Agreement.NotKnown (confirm p h)
  unfolding confirm EndsWith ◌>>=◌ bad
  ends_confirm = ends_if bad Agreement.NotKnown (leb (length (confirming_name p h)) 253) _ _ (λ a e. ap done (error_unknown h a e), λ a. tt) tt

  ends_host : (o : Domain) (q : Option Domain) → EndsWith bad Agreement.NotKnown (by_host p h o q)
  unfolding by_host EndsWith
  ends_host o None = tt
  ends_host o (Some q) = ends_if bad Agreement.NotKnown (same q o) (done Agreement.Inside) (confirm p h) tt ends_confirm

  ends_policy : (o : Option Domain) → EndsWith bad Agreement.NotKnown (by_policy p h o)
  unfolding by_policy EndsWith by_host bad
  ends_policy None = tt
  ends_policy (Some o) = ends_bind bad None Agreement.NotKnown (organization h) (by_host p h o) (ends_organization h) refl (ends_host o)

  ends_check : EndsWith bad Agreement.NotKnown (check p h)
  unfolding check EndsWith by_policy bad
  ends_check = ends_if bad Agreement.NotKnown (same h p) (done Agreement.Inside) (organization p >>= by_policy p h) tt (ends_bind bad None Agreement.NotKnown (organization p) (by_policy p h) (ends_organization p) refl ends_policy)

-- ------------------------------------------------------------------ a run over accepted answers

module _ {R A : Type 0} (bad : R → Bool) (w : A) where
  ended : (β : Answers R) (n : Name) (r : R) → bad r ≡ true → (t : Lookups R A) → EndsWith bad w t → run_over β t ≡ needs n → run_over (β ++ ((n, r) ∷ [])) t ≡ has w
  unfolding EndsWith run_over run
  ended β n r b (done a) e s = absurd (has≢needs s)
  ended β n r b (ask m k) e s = go (λ q f. ended β n r b (k q) (e.1 q) f) (find β m) refl
    where
      go : ((q : R) → run_over β (k q) ≡ needs n → run_over (β ++ ((n, r) ∷ [])) (k q) ≡ has w) → (o : Option R) → find β m ≡ o → run_over (β ++ ((n, r) ∷ [])) (ask m k) ≡ has w
      go ih None f =
          let same_name : m ≡ n = needs_injective m n (sym (run_open (find β) m k f) ∙ s) in
          run_known (find (β ++ ((n, r) ∷ []))) m k r (rw same_name (find_new β n r (ap (find β) (sym same_name) ∙ f))) ∙ ap (run_over (β ++ ((n, r) ∷ []))) (e.0 r b)
      go ih (Some q) f = run_known (find (β ++ ((n, r) ∷ []))) m k q (find_append β ((n, r) ∷ []) m q f) ∙ ih q (sym (run_known (find β) m k q f) ∙ s)

  after_bad : (t : Lookups R A) → EndsWith bad w t → {β : Answers R} → Grown t β → any (λ x. bad x.1) β ≡ true → run_over β t ≡ has w
  unfolding any
  after_bad t e start b = absurd (false≢true b)
  after_bad t e (grow {β} {n} g s r) b = go (λ f. after_bad t e g f) (any (λ x. bad x.1) β) refl (bad r) refl (sym (any_append (λ x. bad x.1) β ((n, r) ∷ [])) ∙ b)
    where
      go : (any (λ x. bad x.1) β ≡ true → run_over β t ≡ has w) → (x : Bool) → any (λ x. bad x.1) β ≡ x → (y : Bool) → bad r ≡ y → (x || (y || false)) ≡ true → run_over (β ++ ((n, r) ∷ [])) t ≡ has w
      go ih true f y h c = absurd (has≢needs (sym (ih f) ∙ s))
      go ih false f true h c = ended β n r h t e s
      go ih false f false h c = absurd (false≢true c)

pub after_error : (p h : Domain) {β : Answers Answer} → Grown (check p h) β → any (λ x. is_error (reply x.1)) β ≡ true → run_over β (check p h) ≡ has Agreement.NotKnown
unfolding bad
after_error p h g e = after_bad (λ a. is_error (reply a)) Agreement.NotKnown (check p h) (ends_check p h) g e
