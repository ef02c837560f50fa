-- The names that an address check asks.
use mathlib.Core.Path.{◌≡◌, refl, ap, sym, ◌∙◌}
use mathlib.Core.List.{List, [], ◌∷◌, ◌++◌, map, append_assoc, append-nil}
use mathlib.Core.Bool.{Bool, true, false, ◌&&◌, ◌||◌, not, true≢false, false≢true, or-false}
use Prim.Native.Nat.{ℕ, ◌+◌, ◌≤◌, ◌<◌}
use native.Mathlib.Omega.{arith}
use lib.Dec.{leb}
use borrow.Author.Tests.{le-leb, lt-leb}
use lib.ListN.{length, length-append, length-map, length-drop}
use Rattle.std.specs.Prelude.{if◌then◌else◌, Option, None, Some}
use Rattle.octets.specs.Octets.{octets, is_nothing, same, any, lower}
use Rattle.octets.proofs.ListLaws.{neither, any_append}
use Rattle.octets.proofs.TextLaws.{same_uneven, same_self, true→T}
use Rattle.lookup.specs.Lookup.{Name, Lookups, done, look_up, reading, ◌>>=◌, path, value, member, once, list}
use Rattle.lookup.proofs.NameLaws.{member_either, member_append, any_once, once_append, once_new}
use Rattle.lookup.proofs.BoundLaws.{path_bind, value_bind, AllIn, all_in_self, within_path}
use Rattle.lookup.proofs.ReadingLaws.{value_reading, list_reading}
use Rattle.lookup.proofs.Claimed.{adds}
use Rattle.domain.specs.Domain.{Domain, last_labels, down_from, targets, asked_name}
use Rattle.domain.proofs.DomainLaws.{last_labels_end}
use Rattle.txt.specs.Answers.{Answer, records, no_records, lookup_error, texts_read, reply}
use Rattle.walk.specs.Walk.{organizational_domain}
use Rattle.walk.specs.Claims.{is_error, holds_error}
use Rattle.walk.proofs.Errors.{organization_error}
use Rattle.walk.proofs.WalkBounds.{walk_names, within_organizational, eight_asked}
use Rattle.address.specs.declared.Agreement.{Agreement}
use Rattle.address.specs.Address.{agreement, confirmation, confirming_name, confirm, organization, by_host, by_policy, check}
use Rattle.address.specs.Claims.{equal_known, is_inside, is_outside, says_inside, says_not_known, NamesOfCheck}
use Rattle.address.proofs.ErrorLaws.{texts_say, unknown_exactly}

-- ------------------------------------------------------------------ no walk asks a name as long as the confirming one

length_name : (d : Domain) → length (asked_name d) ≡ 7 + length d
unfolding asked_name octets lower
length_name d = simp length-map (omega arith)

pub other_name : (c : Name) (d : Domain) → 7 + length d < length c → same c (asked_name d) ≡ false
other_name c d h = same_uneven c (asked_name d) λ e. omega (arith, length_name d)

shorter : (n : ℕ) (d : Domain) → length (last_labels n d) ≤ length d
shorter n d = rw (last_labels_end n d, length-drop) (omega arith)

none_named : (c : Name) (d : Domain) → 7 + length d < length c → (ns : List ℕ) → member c (map asked_name (map (λ n. last_labels n d) ns)) ≡ false
unfolding member any
none_named c d h [] = refl
none_named c d h (n ∷ ns) = rw (other_name c (last_labels n d) (omega (arith, shorter n d))) (none_named c d h ns)

not_in_walk : (c : Name) (d : Domain) → 7 + length d < length c → member c (walk_names d) ≡ false
unfolding walk_names targets member any
not_in_walk c d h = rw (other_name c d h) (none_named c d h (down_from _))

-- of a path and of its list the same
same_member : (c : Name) (l : List Name) → member c (once [] l) ≡ member c l
unfolding member
same_member c l = any_once (same c) l

not_in_path : (α : Name → Answer) (c : Name) (d : Domain) → 7 + length d < length c → member c (path α (organization d)) ≡ false
unfolding organization AllIn list
not_in_path α c d h = go (member c (path α (organization d))) refl
  where
    asked : AllIn (walk_names d) (path (λ n. reply (α n)) (organizational_domain d))
    asked = within_path (λ n. reply (α n)) (walk_names d) (organizational_domain d) (within_organizational (walk_names d) d (all_in_self (walk_names d)))

    read : member c (path α (reading reply (organizational_domain d))) ≡ member c (path (λ n. reply (α n)) (organizational_domain d))
    read =
        sym (same_member c (path α (reading reply (organizational_domain d))))
        ∙ ap (member c) (list_reading reply α (organizational_domain d))
        ∙ same_member c (path (λ n. reply (α n)) (organizational_domain d))

    go : (b : Bool) → member c (path α (reading reply (organizational_domain d))) ≡ b → b ≡ false
    go false e = refl
    go true e = absurd (true≢false (sym (asked c (sym read ∙ e)) ∙ not_in_walk c d h))

-- a front part with the last name in it is the whole
front_ends : (c : Name) (a rest ns : List Name) → a ++ rest ≡ ns ++ (c ∷ []) → member c ns ≡ false → member c a ≡ true → a ≡ ns ++ (c ∷ [])
unfolding member any
front_ends c [] rest ns e f m = absurd (false≢true m)
front_ends c (x ∷ []) rest [] e f m = ap (λ (n : Name). n ∷ []) cc
front_ends c (x ∷ y ∷ a) rest [] e f m = absurd (true→T {b = false} (cc e))
front_ends c (x ∷ a) rest (y ∷ ns) e f m =
    let (f₁, f₂) = neither (same c y) (member c ns) f in
    let first : x ≡ y = cc in
    let others : a ++ rest ≡ ns ++ (c ∷ []) = cc in
    rw first (ap (λ l. y ∷ l) (front_ends c a rest ns others f₂ (rw (first, f₁) at m)))

module _ (p h : Domain) where
  pub long_name : length (confirming_name p h) ≡ length p + 16 + length h
  unfolding confirming_name octets
  long_name = simp length-append (omega arith)

  -- ---------------------------------------------------------------- the confirming name is the last, or it is not asked

  data Shape (v : Agreement) : List Name → Type 0 where
    without_it : {l : List Name} → member (confirming_name p h) l ≡ false → Shape v l
    with_it : (front : List Name) → member (confirming_name p h) front ≡ false → says_inside v ≡ false → Shape v (front ++ (confirming_name p h ∷ []))

  or_both : (a b : Bool) → a ≡ false → b ≡ false → (a || b) ≡ false
  or_both true b e f = e
  or_both false b e f = f

  after_walk : (v : Agreement) (a l : List Name) → member (confirming_name p h) a ≡ false → Shape v l → Shape v (a ++ l)
  after_walk v a l e (without_it f) = without_it (member_either (confirming_name p h) a l ∙ or_both _ _ e f)
  after_walk v a l e (with_it front f g) =
      rw (← append_assoc a front (confirming_name p h ∷ [])) (with_it (a ++ front) (member_either (confirming_name p h) a front ∙ or_both _ _ e f) g)

  -- an answer never makes an address inside
  confirmation_outside : (a : Answer) → says_inside (confirmation h a) ≡ false
  unfolding confirmation says_inside
  confirmation_outside (records bytes) = elim (texts_read bytes) as (λ o. says_inside (elim o as (λ _. Agreement) [ None ↦ Agreement.NotKnown | Some ts ↦ agreement h 0 false ts ]) ≡ false) [
    | None ↦ refl
    | Some ts ↦ texts_say h says_inside refl refl (λ b. refl) 0 false ts
  ]
  confirmation_outside no_records = refl
  confirmation_outside lookup_error = refl

  module _ (α : Name → Answer) where
    confirm_shape : Shape (value α (confirm p h)) (path α (confirm p h))
    unfolding confirm ◌>>=◌ path value member any
    confirm_shape = elim (leb (length (confirming_name p h)) 253) as (λ b. Shape (value α (if b then (look_up (confirming_name p h) >>= λ a. done (confirmation h a)) else done Agreement.PlainNo))
        (path α (if b then (look_up (confirming_name p h) >>= λ a. done (confirmation h a)) else done Agreement.PlainNo))) [
          | true ↦ with_it [] refl (confirmation_outside (α (confirming_name p h)))
          | false ↦ without_it refl
        ]

    host_shape : (o : Domain) (q : Option Domain) → Shape (value α (by_host p h o q)) (path α (by_host p h o q))
    unfolding by_host path value member any
    host_shape o None = without_it refl
    host_shape o (Some q) = elim (same q o) as (λ b. Shape (value α (if b then done Agreement.Inside else confirm p h)) (path α (if b then done Agreement.Inside else confirm p h))) [
      | true ↦ without_it refl
      | false ↦ confirm_shape
    ]

    policy_shape : (o : Option Domain) → Shape (value α (by_policy p h o)) (path α (by_policy p h o))
    unfolding by_policy path value member any
    policy_shape None = without_it refl
    policy_shape (Some o) =
        rw (path_bind α (organization h) (by_host p h o), value_bind α (organization h) (by_host p h o))
        (after_walk _ (path α (organization h)) _ (not_in_path α (confirming_name p h) h (omega (arith, long_name))) (host_shape o (value α (organization h))))

    check_shape : Shape (value α (check p h)) (path α (check p h))
    unfolding check path value member any
    check_shape = elim (same h p) as (λ b. Shape (value α (if b then done Agreement.Inside else (organization p >>= by_policy p h))) (path α (if b then done Agreement.Inside else (organization p >>= by_policy p h)))) [
      | true ↦ without_it refl
      | false ↦ rw (path_bind α (organization p) (by_policy p h), value_bind α (organization p) (by_policy p h))
          (after_walk _ (path α (organization p)) _ (not_in_path α (confirming_name p h) p (omega (arith, long_name))) (policy_shape (value α (organization p))))
    ]

    -- ---------------------------------------------------------------- how many

    -- a walk in front asks other names
    past_walk : (d : Domain) → 7 + length d < length (confirming_name p h) → (f : Option Domain → Lookups Answer Agreement)
        → member (confirming_name p h) (path α (organization d >>= f)) ≡ member (confirming_name p h) (path α (f (value α (organization d))))
    past_walk d l f =
        ap (member (confirming_name p h)) (path_bind α (organization d) f)
        ∙ member_either (confirming_name p h) (path α (organization d)) (path α (f (value α (organization d))))
        ∙ ap (λ b. b || member (confirming_name p h) (path α (f (value α (organization d))))) (not_in_path α (confirming_name p h) d l)

    past_policy : (f : Option Domain → Lookups Answer Agreement)
        → member (confirming_name p h) (path α (organization p >>= f)) ≡ member (confirming_name p h) (path α (f (value α (organization p))))
    past_policy f = past_walk p (omega (arith, long_name)) f

    past_host : (f : Option Domain → Lookups Answer Agreement)
        → member (confirming_name p h) (path α (organization h >>= f)) ≡ member (confirming_name p h) (path α (f (value α (organization h))))
    past_host f = past_walk h (omega (arith, long_name)) f

    -- beside the walks, the confirming name where it is asked
    abbrev one_if : Bool → ℕ
    one_if b = if b then 1 else 0

    abbrev asks_it : Lookups Answer Agreement → Bool
    asks_it t = member (confirming_name p h) (path α t)

    confirm_count : length (list α (confirm p h)) ≤ one_if (asks_it (confirm p h))
    unfolding confirm ◌>>=◌ list path once member any
    confirm_count = elim (leb (length (confirming_name p h)) 253) as (λ b. length (list α (if b then (look_up (confirming_name p h) >>= λ a. done (confirmation h a)) else done Agreement.PlainNo))
        ≤ one_if (asks_it (if b then (look_up (confirming_name p h) >>= λ a. done (confirmation h a)) else done Agreement.PlainNo))) [
          | true ↦ rw (same_self (confirming_name p h)) (omega arith)
          | false ↦ omega arith
        ]

    none : {A : Type 0} (a : A) → length (list α (done a)) ≡ 0
    unfolding list path once
    none a = refl

    walk_eight : (d : Domain) → length (list α (organization d)) ≤ 8
    unfolding organization
    walk_eight d = rw (list_reading reply α (organizational_domain d)) (eight_asked (λ n. reply (α n)) d)

    host_count : (o : Domain) (q : Option Domain) → length (list α (by_host p h o q)) ≤ one_if (asks_it (by_host p h o q))
    unfolding by_host
    host_count o None = omega (arith, none Agreement.NotKnown)
    host_count o (Some q) = elim (same q o) as (λ b. length (list α (if b then done Agreement.Inside else confirm p h)) ≤ one_if (asks_it (if b then done Agreement.Inside else confirm p h))) [
      | true ↦ omega (arith, none Agreement.Inside)
      | false ↦ confirm_count
    ]

    policy_count : (o : Option Domain) → length (list α (by_policy p h o)) ≤ 8 + one_if (asks_it (by_policy p h o))
    unfolding by_policy
    policy_count None = omega (arith, none Agreement.NotKnown)
    policy_count (Some o) =
        omega (arith, (adds α (organization h) (by_host p h o)).at_most, walk_eight h, host_count o (value α (organization h)), ap one_if (past_host (by_host p h o)))

    check_count : length (list α (check p h)) ≤ 16 + one_if (asks_it (check p h))
    unfolding check
    check_count = elim (same h p) as (λ b. length (list α (if b then done Agreement.Inside else (organization p >>= by_policy p h)))
        ≤ 16 + one_if (asks_it (if b then done Agreement.Inside else (organization p >>= by_policy p h)))) [
          | true ↦ omega (arith, none Agreement.Inside)
          | false ↦ omega (arith, (adds α (organization p) (by_policy p h)).at_most, walk_eight p, policy_count (value α (organization p)), ap one_if (past_policy (by_policy p h)))
        ]

    check_17 : length (list α (check p h)) ≤ 17
    check_17 = omega (arith, check_count, at_most_one (asks_it (check p h)))
      where
        at_most_one : (b : Bool) → one_if b ≤ 1
        at_most_one true = omega arith
        at_most_one false = omega arith

    -- without the confirming name
    pub check_16 : member (confirming_name p h) (list α (check p h)) ≡ false → length (list α (check p h)) ≤ 16
    unfolding list
    check_16 m = omega (arith, check_count, ap one_if (sym (same_member (confirming_name p h) (path α (check p h))) ∙ m))

    -- ---------------------------------------------------------------- inside

    confirm_outside : says_inside (value α (confirm p h)) ≡ false
    unfolding confirm ◌>>=◌ value says_inside
    confirm_outside = elim (leb (length (confirming_name p h)) 253) as (λ b. says_inside (value α (if b then (look_up (confirming_name p h) >>= λ a. done (confirmation h a)) else done Agreement.PlainNo)) ≡ false) [
      | true ↦ confirmation_outside (α (confirming_name p h))
      | false ↦ refl
    ]

    host_inside : (o : Domain) (q : Option Domain) → says_inside (value α (by_host p h o q)) ≡ equal_known (Some o) q
    unfolding by_host value says_inside equal_known
    host_inside o None = refl
    host_inside o (Some q) = elim (same q o) as (λ b. says_inside (value α (if b then done Agreement.Inside else confirm p h)) ≡ b) [
      | true ↦ refl
      | false ↦ confirm_outside
    ]

    policy_inside : (o : Option Domain) → says_inside (value α (by_policy p h o)) ≡ equal_known o (value α (organization h))
    unfolding by_policy value says_inside equal_known
    policy_inside None = refl
    policy_inside (Some o) = ap says_inside (value_bind α (organization h) (by_host p h o)) ∙ host_inside o (value α (organization h))

    check_inside : says_inside (value α (check p h)) ≡ is_inside α p h
    unfolding check value says_inside is_inside
    check_inside = elim (same h p) as (λ b. says_inside (value α (if b then done Agreement.Inside else (organization p >>= by_policy p h))) ≡ (b || equal_known (value α (organization p)) (value α (organization h)))) [
      | true ↦ refl
      | false ↦ ap says_inside (value_bind α (organization p) (by_policy p h)) ∙ policy_inside (value α (organization p))
    ]

    -- ---------------------------------------------------------------- the confirming name

    short : Bool
    short = leb (length (confirming_name p h)) 253

    confirm_member : member (confirming_name p h) (path α (confirm p h)) ≡ short
    unfolding confirm ◌>>=◌ path member any short
    confirm_member =
        elim (leb (length (confirming_name p h)) 253) as (λ b. member (confirming_name p h) (path α (if b then (look_up (confirming_name p h) >>= λ a. done (confirmation h a)) else done Agreement.PlainNo)) ≡ b) [
          | true ↦ ap (λ b. b || false) (same_self (confirming_name p h))
          | false ↦ refl
        ]

    host_member : (o : Domain) (q : Option Domain)
        → member (confirming_name p h) (path α (by_host p h o q)) ≡ (not (equal_known (Some o) q) && not (is_nothing (Some o)) && not (is_nothing q) && short)
    unfolding by_host path member any equal_known is_nothing
    host_member o None = refl
    host_member o (Some q) = elim (same q o) as (λ b. member (confirming_name p h) (path α (if b then done Agreement.Inside else confirm p h)) ≡ (not b && true && true && short)) [
      | true ↦ refl
      | false ↦ confirm_member
    ]

    policy_member : (o : Option Domain)
        → member (confirming_name p h) (path α (by_policy p h o))
        ≡ (not (equal_known o (value α (organization h))) && not (is_nothing o) && not (is_nothing (value α (organization h))) && short)
    unfolding by_policy path member any equal_known is_nothing
    policy_member None = refl
    policy_member (Some o) = past_host (by_host p h o) ∙ host_member o (value α (organization h))

    check_member : member (confirming_name p h) (path α (check p h)) ≡ (is_outside α p h && short)
    unfolding check path member any is_outside is_inside
    check_member = elim (same h p) as (λ b. member (confirming_name p h) (path α (if b then done Agreement.Inside else (organization p >>= by_policy p h)))
        ≡ ((not (b || equal_known (value α (organization p)) (value α (organization h))) && not (is_nothing (value α (organization p))) && not (is_nothing (value α (organization h)))) && short)) [
          | true ↦ refl
          | false ↦ past_policy (by_policy p h) ∙ policy_member (value α (organization p))
        ]

    -- ---------------------------------------------------------------- the outcome outside

    abbrev outside_by : (policy host : Option Domain) → Bool
    outside_by o q = not (equal_known o q) && not (is_nothing o) && not (is_nothing q)

    host_outside : (o : Domain) (q : Option Domain) → outside_by (Some o) q ≡ true → value α (by_host p h o q) ≡ value α (confirm p h)
    unfolding by_host value equal_known is_nothing
    host_outside o None e = absurd (false≢true e)
    host_outside o (Some q) e = go (same q o) e
      where
        go : (b : Bool) → (not b && true && true) ≡ true → value α (if b then done Agreement.Inside else confirm p h) ≡ value α (confirm p h)
        go true f = absurd (false≢true f)
        go false f = refl

    policy_outside : (o : Option Domain) → outside_by o (value α (organization h)) ≡ true → value α (by_policy p h o) ≡ value α (confirm p h)
    unfolding by_policy value equal_known is_nothing
    policy_outside None e = absurd (false≢true e)
    policy_outside (Some o) e = value_bind α (organization h) (by_host p h o) ∙ host_outside o (value α (organization h)) e

    check_outside : is_outside α p h ≡ true → value α (check p h) ≡ value α (confirm p h)
    unfolding check value is_outside is_inside
    check_outside e = go (same h p) e
      where
        go : (b : Bool)
            → (not (b || equal_known (value α (organization p)) (value α (organization h))) && not (is_nothing (value α (organization p))) && not (is_nothing (value α (organization h)))) ≡ true
            → value α (if b then done Agreement.Inside else (organization p >>= by_policy p h)) ≡ value α (confirm p h)
        go true f = absurd (false≢true f)
        go false f = value_bind α (organization p) (by_policy p h) ∙ policy_outside (value α (organization p)) f

    confirm_long : 253 < length (confirming_name p h) → value α (confirm p h) ≡ Agreement.PlainNo
    unfolding confirm value
    confirm_long long = rw (lt-leb (length (confirming_name p h)) 253 long)

    confirm_short : length (confirming_name p h) ≤ 253 → value α (confirm p h) ≡ confirmation h (α (confirming_name p h))
    unfolding confirm value ◌>>=◌
    confirm_short l = rw (le-leb (length (confirming_name p h)) 253 l)

    -- ---------------------------------------------------------------- the policy domain's walk first

    policy_first : same h p ≡ false → (rest : List Name) × (list α (check p h) ≡ list α (organization p) ++ rest)
    unfolding check list
    policy_first e = (
      once (once [] (path α (organization p))) (path α (by_policy p h (value α (organization p)))),
      rw (e, path_bind α (organization p) (by_policy p h)) (once_append [] (path α (organization p)) (path α (by_policy p h (value α (organization p))))),
    )

    -- ---------------------------------------------------------------- not known exactly after an error

    bad : Name → Bool
    bad n = is_error (reply (α n))

    walk_unknown : (d : Domain) → is_nothing (value α (organization d)) ≡ any bad (path α (organization d))
    unfolding organization list bad holds_error
    walk_unknown d =
        ap is_nothing (value_reading reply α (organizational_domain d))
        ∙ organization_error (λ n. reply (α n)) d
        ∙ sym (any_once bad (path (λ n. reply (α n)) (organizational_domain d)))
        ∙ ap (any bad) (sym (list_reading reply α (organizational_domain d)))
        ∙ any_once bad (path α (organization d))

    confirm_unknown : says_not_known (value α (confirm p h)) ≡ any bad (path α (confirm p h))
    unfolding confirm ◌>>=◌ value path any says_not_known bad
    confirm_unknown =
        elim (leb (length (confirming_name p h)) 253) as (λ b. says_not_known (value α (if b then (look_up (confirming_name p h) >>= λ a. done (confirmation h a)) else done Agreement.PlainNo))
        ≡ any bad (path α (if b then (look_up (confirming_name p h) >>= λ a. done (confirmation h a)) else done Agreement.PlainNo))) [
          | true ↦ unknown_exactly h (α (confirming_name p h)) ∙ sym (or-false _)
          | false ↦ refl
        ]

    host_unknown : (o : Domain) (q : Option Domain) → says_not_known (value α (by_host p h o q)) ≡ (is_nothing q || any bad (path α (by_host p h o q)))
    unfolding by_host value path any says_not_known is_nothing
    host_unknown o None = refl
    host_unknown o (Some q) =
        elim (same q o) as (λ b. says_not_known (value α (if b then done Agreement.Inside else confirm p h)) ≡ any bad (path α (if b then done Agreement.Inside else confirm p h))) [
          | true ↦ refl
          | false ↦ confirm_unknown
        ]

    -- a walk, and then what goes on with what it found
    walk_then : (d : Domain) (f : Option Domain → Lookups Answer Agreement)
        → says_not_known (value α (f (value α (organization d)))) ≡ (is_nothing (value α (organization d)) || any bad (path α (f (value α (organization d)))))
        → says_not_known (value α (organization d >>= f)) ≡ any bad (path α (organization d >>= f))
    walk_then d f e =
        ap says_not_known (value_bind α (organization d) f)
        ∙ e
        ∙ ap (λ b. b || any bad (path α (f (value α (organization d))))) (walk_unknown d)
        ∙ sym (any_append bad (path α (organization d)) (path α (f (value α (organization d)))))
        ∙ ap (any bad) (sym (path_bind α (organization d) f))

    policy_unknown : (o : Option Domain) → says_not_known (value α (by_policy p h o)) ≡ (is_nothing o || any bad (path α (by_policy p h o)))
    unfolding by_policy value path any says_not_known is_nothing
    policy_unknown None = refl
    policy_unknown (Some o) = walk_then h (by_host p h o) (host_unknown o (value α (organization h)))

    check_unknown : says_not_known (value α (check p h)) ≡ any bad (path α (check p h))
    unfolding check value path any says_not_known
    check_unknown = elim (same h p) as (λ b. says_not_known (value α (if b then done Agreement.Inside else (organization p >>= by_policy p h)))
        ≡ any bad (path α (if b then done Agreement.Inside else (organization p >>= by_policy p h)))) [
          | true ↦ refl
          | false ↦ walk_then p (by_policy p h) (policy_unknown (value α (organization p)))
        ]

    none_asked : same h p ≡ true → list α (check p h) ≡ []
    unfolding check list path once
    none_asked e = rw e

    -- ---------------------------------------------------------------- the claims

    last_of : (v : Agreement) (l : List Name) → Shape v l → member (confirming_name p h) (once [] l) ≡ true
        → (ns : List Name) × (member (confirming_name p h) ns ≡ false) × (once [] l ≡ ns ++ (confirming_name p h ∷ []))
    unfolding once
    last_of v l (without_it e) m = absurd (true≢false (sym m ∙ same_member (confirming_name p h) l ∙ e))
    last_of v l (with_it front e f) m = (
      once [] front,
      same_member (confirming_name p h) front ∙ e,
      once_append [] front (confirming_name p h ∷ [])
          ∙ ap (λ (k : List Name). once [] front ++ k) (once_new (once [] front) (confirming_name p h) [] (same_member (confirming_name p h) front ∙ e)),
    )

    -- of the first names too, once it is among them
    pub at_end : (a rest : List Name) → list α (check p h) ≡ a ++ rest → member (confirming_name p h) a ≡ true → (ns : List Name) × (a ≡ ns ++ (confirming_name p h ∷ []))
    unfolding list
    at_end a rest e m =
        let (ns, f, g) = last_of (value α (check p h)) (path α (check p h)) check_shape (ap (member (confirming_name p h)) e ∙ member_append (confirming_name p h) a rest m) in
        (ns, front_ends (confirming_name p h) a rest ns (sym e ∙ g) f m)

    pub names_of_check : NamesOfCheck p h α
    unfolding list short bad
    names_of_check = record {
      exactly_inside = check_inside;
      nothing_asked = none_asked;
      at_most_17 = check_17;
      last = λ m. at_end (list α (check p h)) [] (sym (append-nil _)) m;
      asked_exactly = same_member (confirming_name p h) (path α (check p h)) ∙ check_member;
      too_long = λ e long. check_outside e ∙ confirm_long long;
      by_the_answer = λ e l. check_outside e ∙ confirm_short l;
      policy_first = policy_first;
      not_known_exactly = check_unknown ∙ sym (any_once bad (path α (check p h)));
    }
