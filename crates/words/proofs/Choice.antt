-- A choice by the token ahead: the code makes one test for each entry, and each test is one law here.
use Prim.Native.Nat.{ℕ}
use Prim.Native.String.{String}
use native.Mathlib.Omega.{arith}
use mathlib.Core.Path.{◌≡◌, refl, sym, ap, ◌∙◌}
use mathlib.Core.Bool.{Bool, true, false, ◌&&◌}
use mathlib.Core.List.{List, [], ◌∷◌}
use lib.Dec.{ltb}
use Rattle.tokens.specs.Written.{bytes, same}
use Rattle.tokens.specs.Tokens.{Tok, Toks, stop, tok}
use Rattle.meaning.specs.Reader.{Res, Reader, ◌>>=◌, after, give, any, refuse_if, ahead_of, one_of, choose, if_ahead, option}
use Rattle.words.specs.Cursor.{ahead, stream, alive, from, Goes, taking}
use Rattle.words.specs.declared.Cursor.{Cursor}
use Rattle.words.proofs.Flow.{from_on, from_stop, given, then, stream_on, stream_stop}

-- what the test says of the token ahead, where it holds
is_ahead : (text : List ℕ) (c : Cursor) (w : List ℕ) → (alive c && ahead_of w (stream text c)) ≡ true → same (ahead text c).word w ≡ true
unfolding ahead_of
is_ahead text c w h = by (alive c) (ltb c.at c.end) refl h
  where
    by : (x y : Bool) → ltb c.at c.end ≡ y → (x && ahead_of w (stream text c)) ≡ true → same (ahead text c).word w ≡ true
    by false y e h = let z : ◌≡◌ {A = ℕ} 0 1 = cc in absurd (omega arith)
    by true true e h = sym (ap (ahead_of w) (stream_on text c e)) ∙ h
    by true false e h = let o : false ≡ true = sym (ap (ahead_of w) (stream_stop text c e)) ∙ h in let z : ◌≡◌ {A = ℕ} 0 1 = cc in absurd (omega arith)

module _ {A : Type 0} {text : List ℕ} {c r : Cursor} {a : A} {b : Bool} (v : String) (k : ℕ → Reader A) (xs : List (String × (ℕ → Reader A)))
    (e : b ≡ (alive c && ahead_of (bytes v) (stream text c))) where
  -- the first entry's token is ahead: behind it, that entry is read
  pub chosen : {d : Cursor} → b ≡ true → Goes text c any d (ahead text c) → Goes text d (k c.at) r a → Goes text c (choose ((v, k) ∷ xs)) r a
  unfolding choose one_of
  chosen {d} h g f =
      then (one_of ((v, k) ∷ xs)) g
      (record {
        same =
            f.same
            ∙ ap (λ (x : Bool). from text d (λ ts. elim x [ true ↦ k c.at ts | false ↦ one_of xs (ahead text c) ts ]))
            (sym (is_ahead text c (bytes v) (sym e ∙ h)));
      })

  -- it is not: one of the other entries is read
  pub passed_over : b ≡ false → Goes text c (choose xs) r a → Goes text c (choose ((v, k) ∷ xs)) r a
  unfolding choose one_of ahead_of any after ◌>>=◌
  passed_over h g = record { same = g.same ∙ by (alive c) refl (stream text c) refl (sym e ∙ h) }
    where
      other : (t : Tok) (ts : Toks) → same t.word (bytes v) ≡ false → choose xs (tok t ts) ≡ choose ((v, k) ∷ xs) (tok t ts)
      other t ts q = rw (q, one_of)

      by : (x : Bool) → alive c ≡ x → (ts : Toks) → stream text c ≡ ts → (x && ahead_of (bytes v) (stream text c)) ≡ false
          → from text c (choose xs) ≡ from text c (choose ((v, k) ∷ xs))
      by false p ts q h = from_stop text c (choose xs) p ∙ sym (from_stop text c (choose ((v, k) ∷ xs)) p)
      by true p (stop n o) q h =
          from_on text c (choose xs) p ∙ ap (choose xs) q ∙ sym (from_on text c (choose ((v, k) ∷ xs)) p ∙ ap (choose ((v, k) ∷ xs)) q)
      by true p (tok t ts) q h =
          from_on text c (choose xs) p ∙ ap (choose xs) q ∙ other t ts (sym (ap (ahead_of (bytes v)) q) ∙ h)
          ∙ sym (from_on text c (choose ((v, k) ∷ xs)) p ∙ ap (choose ((v, k) ∷ xs)) q)

-- no entry is left: the token ahead is not allowed here
pub none_chosen : {A : Type 0} {text : List ℕ} {c r : Cursor} {t : Tok} {a : A} → Goes text c (taking false) r t → Goes text c (choose []) r a
unfolding choose one_of any refuse_if give after ◌>>=◌
none_chosen {A} {text} {c} {r} {t} {a} g = record { same = (then (λ u. give a) g given).same ∙ by (alive c) refl (stream text c) refl }
  where
    by : (x : Bool) → alive c ≡ x → (ts : Toks) → stream text c ≡ ts
        → from text c (taking false >>= λ u. give a) ≡ from text c (choose {A = A} [])
    by false p ts q = from_stop text c (taking false >>= λ u. give a) p ∙ sym (from_stop text c (choose []) p)
    by true p (stop n o) q =
        from_on text c (taking false >>= λ u. give a) p ∙ ap (taking false >>= λ u. give a) q
        ∙ sym (from_on text c (choose []) p ∙ ap (choose []) q)
    by true p (tok u us) q =
        from_on text c (taking false >>= λ u. give a) p ∙ ap (taking false >>= λ u. give a) q
        ∙ sym (from_on text c (choose []) p ∙ ap (choose []) q)

-- ---- one of two readers, by the token ahead, which neither has taken yet

module _ {A : Type 0} {text : List ℕ} {c r : Cursor} {a : A} {b : Bool} (v : String) (m k : Reader A)
    (e : b ≡ (alive c && ahead_of (bytes v) (stream text c))) where
  pub ahead_yes : b ≡ true → Goes text c m r a → Goes text c (if_ahead v m k) r a
  unfolding if_ahead
  ahead_yes h g = record { same = g.same ∙ by (alive c) refl (sym e ∙ h) }
    where
      either : Bool → Res A
      either x = elim x [ true ↦ m (stream text c) | false ↦ k (stream text c) ]

      by : (x : Bool) → alive c ≡ x → (x && ahead_of (bytes v) (stream text c)) ≡ true → from text c m ≡ from text c (if_ahead v m k)
      by true p q = from_on text c m p ∙ sym (from_on text c (if_ahead v m k) p ∙ ap either q)
      by false p q = let z : ◌≡◌ {A = ℕ} 0 1 = cc in absurd (omega arith)

  pub ahead_no : b ≡ false → Goes text c k r a → Goes text c (if_ahead v m k) r a
  unfolding if_ahead
  ahead_no h g = record { same = g.same ∙ by (alive c) refl (sym e ∙ h) }
    where
      either : Bool → Res A
      either x = elim x [ true ↦ m (stream text c) | false ↦ k (stream text c) ]

      by : (x : Bool) → alive c ≡ x → (x && ahead_of (bytes v) (stream text c)) ≡ false → from text c k ≡ from text c (if_ahead v m k)
      by true p q = from_on text c k p ∙ sym (from_on text c (if_ahead v m k) p ∙ ap either q)
      by false p q = from_stop text c k p ∙ sym (from_stop text c (if_ahead v m k) p)

-- ---- a part that may be missing

module _ {S : Type 0} {text : List ℕ} {c : Cursor} {b : Bool} (v : String) (part : S → Reader S) (s : S)
    (e : b ≡ (alive c && ahead_of (bytes v) (stream text c))) where
  pub there : {r : Cursor} {s' : S} → b ≡ true → Goes text c (part s) r s' → Goes text c (option v part s) r s'
  unfolding option
  there h g = ahead_yes v (part s) (give s) e h g

  pub missing : b ≡ false → Goes text c (option v part s) c s
  unfolding option
  missing h = ahead_no v (part s) (give s) e h given
