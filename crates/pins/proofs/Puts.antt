-- Assignments signal by signal: no signal stands twice, so what it shows afterwards, and what is left of its argument, does not depend on the order.
use Prim.Native.Nat.{ℕ, ◌<◌}
use mathlib.Core.Path.{◌≡◌, refl, sym, ap, ◌∙◌, subst}
use mathlib.Core.Bool.{Bool, true, false, ◌||◌, true≢false}
use mathlib.Core.List.{List, [], ◌∷◌}
use lib.Dec.{eqb}
use lib.ListN.{length, get_or, set, length-set}
use lib.Seq.{get_or-set_same, get_or-set_other}
use borrow.Author.Tests.{ne_eqb, eqb-true, eqb-false}
use Rattle.tokens.proofs.Bools.{neither}
use Rattle.meaning.specs.Lists.{has, repeats}
use Rattle.meaning.specs.Body.{Assigns, Args, mark, arg_of, supplied, marked}
use Rattle.meaning.specs.Data.{assigned}
use Rattle.meaning.specs.Run.{State, unassigned, next, behind, taken, put, puts}
use Rattle.assigns.specs.Given.{char_of, chars}

-- ---- what is left of the arguments

pub supplied_taken : (s : ℕ) (a : Args) → supplied (taken s a) ≡ supplied a
unfolding supplied taken
supplied_taken s [] = refl
supplied_taken s (x ∷ xs) = by (eqb x.0 s) (supplied_taken s xs)
  where
    by : (b : Bool) → supplied (taken s xs) ≡ supplied xs → supplied (elim b [ true ↦ (x.0, behind x.1) ∷ xs | false ↦ x ∷ taken s xs ]) ≡ x.0 ∷ supplied xs
    by true ih = refl
    by false ih = ap (λ (l : List ℕ). x.0 ∷ l) ih

-- one's own is one shorter
taken_own : (s : ℕ) (a : Args) → arg_of s (taken s a) ≡ behind (arg_of s a)
unfolding arg_of taken behind
taken_own s [] = refl
taken_own s (x ∷ xs) = by (eqb x.0 s) refl (taken_own s xs)
  where
    by : (b : Bool) → eqb x.0 s ≡ b → arg_of s (taken s xs) ≡ behind (arg_of s xs)
        → arg_of s (elim b [ true ↦ (x.0, behind x.1) ∷ xs | false ↦ x ∷ taken s xs ]) ≡ behind (elim b [ true ↦ x.1 | false ↦ arg_of s xs ])
    by true e ih = rw (e, arg_of)
    by false e ih = rw (e, arg_of) ih

-- another's is as it was
taken_other : (s t : ℕ) (a : Args) → (s ≡ t → ⊥) → arg_of t (taken s a) ≡ arg_of t a
unfolding arg_of taken
taken_other s t [] h = refl
taken_other s t (x ∷ xs) h = by (eqb x.0 s) refl (taken_other s t xs h)
  where
    pick : Bool → List ℕ → List ℕ
    pick b l = elim b [ true ↦ x.1 | false ↦ l ]

    by : (b : Bool) → eqb x.0 s ≡ b → arg_of t (taken s xs) ≡ arg_of t xs
        → arg_of t (elim b [ true ↦ (x.0, behind x.1) ∷ xs | false ↦ x ∷ taken s xs ]) ≡ elim (eqb x.0 t) [ true ↦ x.1 | false ↦ arg_of t xs ]
    by true e ih = let o : x.0 ≡ t → ⊥ = λ z. h (sym (eqb-true x.0 s e) ∙ z) in rw (ne_eqb x.0 t o, arg_of)
    by false e ih = ap (pick (eqb x.0 t)) ih

-- ---- one assignment

-- what a signal shows where it is given the character c: 0 stands for none, `#` for the next of its argument
abbrev pub shown : ℕ → ℕ → List ℕ → ℕ
shown c old arg = elim (eqb c unassigned) [ true ↦ old | false ↦ elim (eqb c mark) [ true ↦ next arg | false ↦ c ] ]

abbrev pub left : ℕ → List ℕ → List ℕ
left c arg = elim (eqb c mark) [ true ↦ behind arg | false ↦ arg ]

-- by whether it is `#`
abbrev one : Bool → ℕ × ℕ → State → State
one true x s = record { pins = set s.pins x.0 (next (arg_of x.0 s.args)); table = s.table; args = taken x.0 s.args }
one false x s = record { pins = set s.pins x.0 x.1; table = s.table; args = s.args }

put_is : (x : ℕ × ℕ) (s : State) → put x s ≡ one (eqb x.1 mark) x s
unfolding put
put_is x s = by (eqb x.1 mark)
  where
    by : (b : Bool)
        → ◌≡◌ {A = State}
        (elim b [
          | true ↦ record { pins = set s.pins x.0 (next (arg_of x.0 s.args)); table = s.table; args = taken x.0 s.args }
          | false ↦ record { pins = set s.pins x.0 x.1; table = s.table; args = s.args }
        ])
        (one b x s)
    by true = refl
    by false = refl

-- what holds of both kinds
by_put : {A : Type 0} (f : State → A) {a : A} (x : ℕ × ℕ) (s : State) → ((b : Bool) → f (one b x s) ≡ a) → f (put x s) ≡ a
by_put f x s h = ap f (put_is x s) ∙ h (eqb x.1 mark)

module _ (x : ℕ × ℕ) (s : State) where
  one_table_lem : (b : Bool) → (one b x s).table ≡ s.table
  one_table_lem true = refl
  one_table_lem false = refl

  one_long : (b : Bool) → length (one b x s).pins ≡ length s.pins
  one_long true = length-set s.pins x.0 (next (arg_of x.0 s.args))
  one_long false = length-set s.pins x.0 x.1

  one_supplied : (b : Bool) → supplied (one b x s).args ≡ supplied s.args
  one_supplied true = supplied_taken x.0 s.args
  one_supplied false = refl

  own_pin : (b : Bool) → x.0 < length s.pins → get_or (one b x s).pins x.0 0 ≡ elim b [ true ↦ next (arg_of x.0 s.args) | false ↦ x.1 ]
  own_pin true h = get_or-set_same s.pins x.0 (next (arg_of x.0 s.args)) 0 h
  own_pin false h = get_or-set_same s.pins x.0 x.1 0 h

  own_arg : (b : Bool) → arg_of x.0 (one b x s).args ≡ elim b [ true ↦ behind (arg_of x.0 s.args) | false ↦ arg_of x.0 s.args ]
  own_arg true = taken_own x.0 s.args
  own_arg false = refl

  module _ (j : ℕ) (o : x.0 ≡ j → ⊥) where
    other_pin : (b : Bool) → get_or (one b x s).pins j 0 ≡ get_or s.pins j 0
    other_pin true = get_or-set_other s.pins x.0 j (next (arg_of x.0 s.args)) 0 (λ z. o (sym z))
    other_pin false = get_or-set_other s.pins x.0 j x.1 0 (λ z. o (sym z))

    other_arg : (b : Bool) → arg_of j (one b x s).args ≡ arg_of j s.args
    other_arg true = taken_other x.0 j s.args o
    other_arg false = refl

-- ---- some assignments

-- what every single one keeps, all of them keep
kept : {A : Type 0} (f : State → A) → ((x : ℕ × ℕ) (s : State) (b : Bool) → f (one b x s) ≡ f s) → (a : Assigns) (s : State) → f (puts a s) ≡ f s
unfolding puts
kept f h [] s = refl
kept f h (x ∷ xs) s = kept f h xs (put x s) ∙ by_put f x s (h x s)

pub puts_supplied : (a : Assigns) (s : State) → supplied (puts a s).args ≡ supplied s.args
puts_supplied = kept (λ s. supplied s.args) one_supplied

-- what it does to another signal's is nothing
unmoved : {A : Type 0} (j : ℕ) (f : State → A) → ((x : ℕ × ℕ) (s : State) → (x.0 ≡ j → ⊥) → (b : Bool) → f (one b x s) ≡ f s)
    → (a : Assigns) → has j (assigned a) ≡ false → (s : State) → f (puts a s) ≡ f s
unfolding puts has assigned
unmoved j f h [] n s = refl
unmoved j f h (x ∷ xs) n s =
    let q = neither (eqb x.0 j) (has j (assigned xs)) n in
    unmoved j f h xs q.1 (put x s) ∙ by_put f x s (h x s (eqb-false x.0 j q.0))

module _ (j : ℕ) where
  pin_unmoved : (a : Assigns) → has j (assigned a) ≡ false → (s : State) → get_or (puts a s).pins j 0 ≡ get_or s.pins j 0
  pin_unmoved = unmoved j (λ s. get_or s.pins j 0) (λ x s o. other_pin x s j o)

  pub arg_unmoved : (a : Assigns) → has j (assigned a) ≡ false → (s : State) → arg_of j (puts a s).args ≡ arg_of j s.args
  arg_unmoved = unmoved j (λ s. arg_of j s.args) (λ x s o. other_arg x s j o)

  pub puts_pin : (a : Assigns) (s : State) → repeats (assigned a) ≡ false → has 0 (chars a) ≡ false → j < length s.pins
      → get_or (puts a s).pins j 0 ≡ shown (char_of j a) (get_or s.pins j 0) (arg_of j s.args)
  unfolding puts char_of chars assigned repeats has
  puts_pin [] s r z h = refl
  puts_pin (x ∷ xs) s r z h =
      let p = neither (has x.0 (assigned xs)) (repeats (assigned xs)) r in
      let q = neither (eqb x.1 0) (has 0 (chars xs)) z in
      by (eqb x.0 j) refl p q.0 (puts_pin xs (put x s) p.1 q.1 (subst (λ (n : ℕ). j < n) (sym (by_put (λ t. length t.pins) x s (one_long x s))) h))
    where
      by : (b : Bool) → eqb x.0 j ≡ b → (has x.0 (assigned xs) ≡ false) × (repeats (assigned xs) ≡ false) → eqb x.1 0 ≡ false
          → get_or (puts xs (put x s)).pins j 0 ≡ shown (char_of j xs) (get_or (put x s).pins j 0) (arg_of j (put x s).args)
          → get_or (puts xs (put x s)).pins j 0 ≡ shown (elim b [ true ↦ x.1 | false ↦ char_of j xs ]) (get_or s.pins j 0) (arg_of j s.args)
      by true e p q ih =
          let o : x.0 ≡ j = eqb-true x.0 j e in
          pin_unmoved xs (rw o at p.0) (put x s) ∙ ap (λ (t : State). get_or t.pins j 0) (put_is x s)
          ∙ subst (λ (i : ℕ). get_or (one (eqb x.1 mark) x s).pins i 0 ≡ shown x.1 (get_or s.pins i 0) (arg_of i s.args)) o (rw (q, shown) (own_pin x s (eqb x.1 mark) (rw o h)))
      by false e p q ih =
          let o = eqb-false x.0 j e in
          ih ∙ ap (λ (n : ℕ). shown (char_of j xs) n (arg_of j (put x s).args)) (by_put (λ t. get_or t.pins j 0) x s (other_pin x s j o))
          ∙ ap (λ (l : List ℕ). shown (char_of j xs) (get_or s.pins j 0) l) (by_put (λ t. arg_of j t.args) x s (other_arg x s j o))

  pub puts_arg : (a : Assigns) (s : State) → repeats (assigned a) ≡ false → arg_of j (puts a s).args ≡ left (char_of j a) (arg_of j s.args)
  unfolding puts char_of assigned repeats has
  puts_arg [] s r = refl
  puts_arg (x ∷ xs) s r =
      let p = neither (has x.0 (assigned xs)) (repeats (assigned xs)) r in
      by (eqb x.0 j) refl p.0 (puts_arg xs (put x s) p.1)
    where
      by : (b : Bool) → eqb x.0 j ≡ b → has x.0 (assigned xs) ≡ false → arg_of j (puts xs (put x s)).args ≡ left (char_of j xs) (arg_of j (put x s).args)
          → arg_of j (puts xs (put x s)).args ≡ left (elim b [ true ↦ x.1 | false ↦ char_of j xs ]) (arg_of j s.args)
      by true e p ih =
          let o : x.0 ≡ j = eqb-true x.0 j e in
          arg_unmoved xs (rw o at p) (put x s) ∙ ap (λ (t : State). arg_of j t.args) (put_is x s)
          ∙ subst (λ (i : ℕ). arg_of i (one (eqb x.1 mark) x s).args ≡ left x.1 (arg_of i s.args)) o (own_arg x s (eqb x.1 mark))
      by false e p ih =
          let o = eqb-false x.0 j e in
          ih ∙ ap (left (char_of j xs)) (by_put (λ t. arg_of j t.args) x s (other_arg x s j o))

-- ---- `#` and arguments

-- a signal that is given `#` is marked
pub char_marked : (j : ℕ) (a : Assigns) → eqb (char_of j a) mark ≡ true → has j (marked a) ≡ true
unfolding char_of marked has
char_marked j [] e = absurd (true≢false (sym e))
char_marked j (x ∷ xs) e = by (eqb x.0 j) refl e (char_marked j xs) (eqb x.1 mark) refl
  where
    later : (m : Bool) → has j (marked xs) ≡ true → has j (elim m [ true ↦ x.0 ∷ marked xs | false ↦ marked xs ]) ≡ true
    later true h = or-true (eqb x.0 j) h
      where
        or-true : (b : Bool) → has j (marked xs) ≡ true → (b || has j (marked xs)) ≡ true
        or-true true h = refl
        or-true false h = h
    later false h = h

    by : (b : Bool) → eqb x.0 j ≡ b → eqb (elim b [ true ↦ x.1 | false ↦ char_of j xs ]) mark ≡ true → (eqb (char_of j xs) mark ≡ true → has j (marked xs) ≡ true)
        → (m : Bool) → eqb x.1 mark ≡ m → has j (elim m [ true ↦ x.0 ∷ marked xs | false ↦ marked xs ]) ≡ true
    by true o e ih true f = rw o
    by true o e ih false f = absurd (true≢false (sym e ∙ f))
    by false o e ih m f = later m (ih e)

-- and assigned
pub char_assigned : (j : ℕ) (a : Assigns) → eqb (char_of j a) mark ≡ true → has j (assigned a) ≡ true
unfolding char_of assigned has
char_assigned j [] e = absurd (true≢false (sym e))
char_assigned j (x ∷ xs) e = by (eqb x.0 j) e (char_assigned j xs)
  where
    by : (b : Bool) → eqb (elim b [ true ↦ x.1 | false ↦ char_of j xs ]) mark ≡ true → (eqb (char_of j xs) mark ≡ true → has j (assigned xs) ≡ true)
        → (b || has j (assigned xs)) ≡ true
    by true e ih = refl
    by false e ih = ih e
