-- What a program reads, told by data: the texts, with their rows and values, that it reads whole, and no others.
use mathlib.Core.Path.{◌≡◌, refl, sym, ap, ◌∙◌, subst}
use mathlib.Core.List.{List, [], ◌∷◌, ◌++◌, append-nil}
use mathlib.Core.Logic.{◌⊎◌, inl, inr}
use mathlib.Core.Bool.{Bool, true, false, ◌||◌, false≢true}
use Prim.Native.Nat.{ℕ}
use Prim.Native.String.{String}
use borrow.Author.Tests.{eqb-true}
use Rattle.octets.specs.Octets.{Octets, octets}
use Rattle.parsing.specs.Reads.{Reads, done, give, ◌>>=◌, ◌>>◌, exactly}
use Rattle.parsing.specs.code.Whole.{Whole}
use Rattle.report_form.specs.ReportForm.{Said}
use Rattle.report_form.specs.code.ReportReading.{first_is as starts, rest_of, among, chosen, one_word, reading_literal as literal}
use Rattle.report_form.proofs.WholeLaws.{whole_bind, whole_cut, octet_whole, whole_exactly, exactly_whole}

pub record Tells {A : Type 0} (t : Reads Said A) : Type 1 where
  pub Data : Type 0
  pub text : Data → Octets
  pub rows : Data → List Said
  pub value : Data → A
  pub Good : Data → Type 0
  pub into : (x : Data) → Good x → Whole t (text x) (rows x) (value x)
  pub back : (s : Octets) (rs : List Said) (a : A) → Whole t s rs a → (x : Data) × Good x × (s ≡ text x) × (rs ≡ rows x) × (a ≡ value x)

-- ------------------------------------------------------------------ how programs are put together

pub whole_done : {A : Type 0} (a : A) → Whole {R = Said} (done a) [] [] a
unfolding Whole
whole_done a = (refl, refl, refl)

pub done_whole : {A : Type 0} (a : A) (s : Octets) (rs : List Said) (b : A) → Whole {R = Said} (done a) s rs b → (s ≡ []) × (rs ≡ []) × (a ≡ b)
unfolding Whole
done_whole a s rs b w = w

unfoldable pub tells_done : {A : Type 0} (a : A) → Tells (done a)
tells_done a = record {
  Data = Unit {0};
  text = λ _. [];
  rows = λ _. [];
  value = λ _. a;
  Good = λ _. Unit {0};
  into = λ x g. whole_done a;
  back = λ s rs b w. let (e, f, h) = done_whole a s rs b w in (tt, tt, e, f, sym h);
}

unfoldable pub tells_literal : (s : String) → Tells (literal s)
unfolding literal
tells_literal s = record {
  Data = Unit {0};
  text = λ _. octets s;
  rows = λ _. [];
  value = λ _. tt;
  Good = λ _. Unit {0};
  into = λ x g. whole_exactly (octets s);
  back = λ u rs b w. let (e, f) = exactly_whole (octets s) u rs w in (tt, tt, e, f, refl);
}

pub bind_into : {A B : Type 0} (t : Reads Said A) (f : A → Reads Said B) (S : Tells t) (T : (x : S.Data) → Tells (f (S.value x))) (p : (x : S.Data) × (T x).Data)
    → S.Good p.0 × (T p.0).Good p.1 → Whole (t >>= f) (S.text p.0 ++ (T p.0).text p.1) (S.rows p.0 ++ (T p.0).rows p.1) ((T p.0).value p.1)
bind_into t f S T p g =
    whole_bind t f (S.text p.0) ((T p.0).text p.1) (S.rows p.0) ((T p.0).rows p.1) (S.value p.0) ((T p.0).value p.1) (S.into p.0 g.0) ((T p.0).into p.1 g.1)

pub bind_back : {A B : Type 0} (t : Reads Said A) (f : A → Reads Said B) (S : Tells t) (T : (x : S.Data) → Tells (f (S.value x))) (s : Octets) (rs : List Said) (b : B) → Whole (t >>= f) s rs b
    → (p : (x : S.Data) × (T x).Data) × (S.Good p.0 × (T p.0).Good p.1) × (s ≡ S.text p.0 ++ (T p.0).text p.1) × (rs ≡ S.rows p.0 ++ (T p.0).rows p.1) × (b ≡ (T p.0).value p.1)
bind_back t f S T s rs b w =
    let c = whole_cut t f s rs b w in
    let (x, g, e, h, v) = S.back c.front c.front_rows c.value c.reads_front in
    let (y, i, j, k, l) = (T x).back c.back c.back_rows b (subst (λ z. Whole (f z) c.back c.back_rows b) v c.reads_back) in
    ((x, y), (g, i), c.joined ∙ (λ n. e n ++ j n), c.joined_rows ∙ (λ n. h n ++ k n), l)

unfoldable pub tells_bind : {A B : Type 0} (t : Reads Said A) (f : A → Reads Said B) (S : Tells t) (T : (x : S.Data) → Tells (f (S.value x))) → Tells (t >>= f)
tells_bind t f S T = record {
  Data = (x : S.Data) × (T x).Data;
  text = λ p. S.text p.0 ++ (T p.0).text p.1;
  rows = λ p. S.rows p.0 ++ (T p.0).rows p.1;
  value = λ p. (T p.0).value p.1;
  Good = λ p. S.Good p.0 × (T p.0).Good p.1;
  into = bind_into t f S T;
  back = bind_back t f S T;
}

unfoldable pub tells_then : {A B : Type 0} (t : Reads Said A) (u : Reads Said B) (S : Tells t) (T : Tells u) → Tells (t >> u)
unfolding ◌>>◌
tells_then t u S T = tells_bind t (λ _. u) S (λ _. T)

pub give_into : {A : Type 0} (r : Said) (t : Reads Said A) (s : Octets) (rs : List Said) (a : A) → Whole t s rs a → Whole (give r t) s (r ∷ rs) a
unfolding Whole
give_into r t s rs a w = (rs, refl, w)

pub give_back : {A : Type 0} (r : Said) (t : Reads Said A) (s : Octets) (rs : List Said) (a : A) → Whole (give r t) s rs a → (qs : List Said) × (rs ≡ r ∷ qs) × Whole t s qs a
unfolding Whole
give_back r t s rs a w = w

unfoldable pub tells_give : {A : Type 0} (r : Said) (t : Reads Said A) (S : Tells t) → Tells (give r t)
tells_give r t S = record {
  Data = S.Data;
  text = S.text;
  rows = λ x. r ∷ S.rows x;
  value = S.value;
  Good = S.Good;
  into = λ x g. give_into r t (S.text x) (S.rows x) (S.value x) (S.into x g);
  back = λ s rs a w.
      let (qs, e, v) = give_back r t s rs a w in
      let (x, g, f, h, i) = S.back s qs a v in
      (x, g, f, e ∙ ap (λ l. r ∷ l) h, i);
}

-- the same texts, told by other data
pub record Same {A : Type 0} (t : Reads Said A) (S : Tells t) (D : Type 0) (text : D → Octets) (rows : D → List Said) (value : D → A) (G : D → Type 0) : Type 0 where
  pub to : (y : D) → G y → (x : S.Data) × S.Good x × (S.text x ≡ text y) × (S.rows x ≡ rows y) × (S.value x ≡ value y)
  pub from : (x : S.Data) → S.Good x → (y : D) × G y × (S.text x ≡ text y) × (S.rows x ≡ rows y) × (S.value x ≡ value y)

pub as_into : {A : Type 0} (t : Reads Said A) (S : Tells t) (D : Type 0) (text : D → Octets) (rows : D → List Said) (value : D → A) (G : D → Type 0) (same : Same t S D text rows value G)
    (y : D) → G y → Whole t (text y) (rows y) (value y)
as_into t S D text rows value G same y g =
    let (x, h, e, f, i) = same.to y g in
    subst (λ a. Whole t (text y) (rows y) a) i (subst (λ l. Whole t (text y) l (S.value x)) f (subst (λ s. Whole t s (S.rows x) (S.value x)) e (S.into x h)))

unfoldable pub tells_as : {A : Type 0} (t : Reads Said A) (S : Tells t) (D : Type 0) (text : D → Octets) (rows : D → List Said) (value : D → A) (G : D → Type 0) → Same t S D text rows value G → Tells t
tells_as t S D text rows value G same = record {
  Data = D;
  text = text;
  rows = rows;
  value = value;
  Good = G;
  into = as_into t S D text rows value G same;
  back = λ s rs a w.
      let (x, g, e, f, h) = S.back s rs a w in
      let (y, i, j, k, l) = same.from x g in
      (y, i, e ∙ j, f ∙ k, h ∙ l);
}

-- ------------------------------------------------------------------ words

-- a text and value among some words
unfoldable pub In : {A : Type 0} → Octets → A → List (String × A) → Type 0
In s a [] = ⊥
In s a (w ∷ ws) = ((s ≡ octets w.0) × (a ≡ w.1)) ⊎ In s a ws

rest_back : {A : Type 0} (x : ℕ) (o : Octets) (b : A) (u : Octets) (rs : List Said) (a : A) → starts x o ≡ true → Whole {R = Said} (rest_of o b) u rs a → (x ∷ u ≡ o) × (a ≡ b) × (rs ≡ [])
unfolding starts rest_of ◌>>◌ Whole
rest_back x [] b u rs a e w = absurd (false≢true e)
rest_back x (c ∷ o) b u rs a e w =
    let k = whole_cut (exactly o) (λ _. done b) u rs a w in
    let (g, h) = exactly_whole o k.front k.front_rows k.reads_front in
    let (i, j, l) = done_whole b k.back k.back_rows a k.reads_back in
    ((λ n. eqb-true x c e n ∷ (k.joined ∙ (λ m. g m ++ i m) ∙ append-nil o) n), sym l, k.joined_rows ∙ (λ m. h m ++ j m))

chosen_back : {A : Type 0} (x : ℕ) (w : String × A) (ws : List (String × A)) (u : Octets) (rs : List Said) (a : A) → among x (w ∷ ws) ≡ true → Whole {R = Said} (chosen x w ws) u rs a → In (x ∷ u) a (w ∷ ws) × (rs ≡ [])
unfolding chosen among In
chosen_back x w [] u rs a e v =
    let f : starts x (octets w.0) ≡ true = or_end (starts x (octets w.0)) e in
    let (g, h, i) = rest_back x (octets w.0) w.1 u rs a f v in (inl (g, h), i)
  where
    or_end : (b : Bool) → (b || false) ≡ true → b ≡ true
    or_end true p = refl
    or_end false p = p
chosen_back x w (y ∷ ws) u rs a e v = go (starts x (octets w.0)) refl (chosen_back x y ws u rs a)
  where
    go : (c : Bool) → starts x (octets w.0) ≡ c → (among x (y ∷ ws) ≡ true → Whole {R = Said} (chosen x y ws) u rs a → In (x ∷ u) a (y ∷ ws) × (rs ≡ [])) → In (x ∷ u) a (w ∷ y ∷ ws) × (rs ≡ [])
    go true f h = let (g, i, j) = rest_back x (octets w.0) w.1 u rs a f (rw (f, chosen) at v) in (inl (g, i), j)
    go false f h = let (g, i) = h (rw (f, among) at e) (rw (f, chosen) at v) in (inr g, i)

pub word_back : {A : Type 0} (w : String × A) (ws : List (String × A)) (s : Octets) (rs : List Said) (a : A) → Whole {R = Said} (one_word w ws) s rs a → In s a (w ∷ ws) × (rs ≡ [])
unfolding one_word
word_back w ws s rs a v =
    let (x, u, e, f, r) = octet_whole (λ x. among x (w ∷ ws)) (λ x. chosen x w ws) s rs a v in
    let (g, h) = chosen_back x w ws u rs a f r in
    (subst (λ z. In z a (w ∷ ws)) (sym e) g, h)

-- each word of a list is what its value is written as
unfoldable pub Spelled : {A : Type 0} → (A → Octets) → List (String × A) → Type 0
Spelled text [] = Unit
Spelled text (w ∷ ws) = (octets w.0 ≡ text w.1) × Spelled text ws

pub spelled_in : {A : Type 0} (text : A → Octets) (ws : List (String × A)) (s : Octets) (a : A) → Spelled text ws → In s a ws → s ≡ text a
unfolding Spelled In
spelled_in text [] s a p i = absurd i
spelled_in text (w ∷ ws) s a p (inl h) = h.0 ∙ p.0 ∙ ap text (sym h.1)
spelled_in text (w ∷ ws) s a p (inr h) = spelled_in text ws s a p.1 h

unfoldable pub tells_word : {A : Type 0} (w : String × A) (ws : List (String × A)) (text : A → Octets) → Spelled text (w ∷ ws) → ((a : A) → Whole {R = Said} (one_word w ws) (text a) [] a) → Tells (one_word w ws)
tells_word {A} w ws text p h = record {
  Data = A;
  text = text;
  rows = λ _. [];
  value = λ a. a;
  Good = λ _. Unit {0};
  into = λ a g. h a;
  back = λ s rs a v. let (i, j) = word_back w ws s rs a v in (a, tt, spelled_in text (w ∷ ws) s a p i, j, refl);
}
