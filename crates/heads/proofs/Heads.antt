-- One law for each head: what was read behind its word, the definition's head reads.
use Prim.Native.Nat.{ℕ}
use native.Mathlib.Omega.{arith}
use mathlib.Core.Path.{◌≡◌, refl, sym, ◌∙◌}
use mathlib.Core.Bool.{Bool, true, false, cond, not, ◌&&◌, ◌||◌}
use mathlib.Core.List.{List, ◌∷◌}
use Rattle.tokens.specs.Tokens.{Tok}
use Rattle.tokens.specs.Written.{bytes, same}
use Rattle.tokens.proofs.Bools.{neither}
use Rattle.meaning.specs.Reader.{◌>>=◌, give, any, one_of}
use Rattle.meaning.specs.Body.{Assigns, assigning, Kind, macro, procedure}
use Rattle.meaning.specs.Data.{assigns}
use Rattle.meaning.specs.Statements.{Decls, Env, Head, vecs, sets, used, chosen, looping, label_head, head}
use Rattle.words.specs.Cursor.{ahead, Goes}
use Rattle.words.specs.declared.Cursor.{Cursor}
use Rattle.words.proofs.Flow.{given as no_more}
use Rattle.signals.specs.Names.{names_of}
use Rattle.timing.specs.Makes.{Makes}
use Rattle.timing.proofs.Making.{made, makes_then}
use Rattle.assigns.specs.Given.{Gives}
use Rattle.measures.specs.Uses.{Given}
use Rattle.measures.proofs.Uses.{given_read}
use Rattle.heads.specs.Known.{Describes}
use Rattle.heads.specs.Heads.{Tells, OfKind, part_of, last_heads, others}
use Rattle.heads.specs.declared.Known.{Known}
use Rattle.heads.specs.declared.Part.{Part}
use Rattle.heads.specs.declared.What.TheVariants.{Vector, Assigns as AssignsOnly}
use Rattle.heads.proofs.ByWord.{by_word, this_word, other_word}
use Rattle.heads.proofs.ByNumber.{of_part}

module _ {text places lists tplaces book rows : List ℕ} {known : Known} {e : Env} (h : Describes text places lists tplaces book rows known e) (d : ℕ)
    {c r : Cursor} {P : Head → Type 0} where
  -- ---- Macro, Call and X, and then Shift and `}`

  module _ (may : Bool) (t : Tok) where
    pub body_read : {x y : Bool} {part : Part} → x ≡ same t.word (bytes "Macro") → y ≡ same t.word (bytes "Call") → (x || y) ≡ true
        → part ≡ part_of known x
        → ((k : Kind) (ds : Decls) → OfKind text book rows part k ds → Makes text c (used k d (names_of text places lists known.names) ds) r P)
        → Makes text c (one_of (others e may d) t) r P
    body_read {x} {y} p q or f u = by x y p q or (rw h.names_are (u (cond x macro procedure) (cond x e.macros e.procs) (of_part h x f)))
      where
        by : (x y : Bool) → x ≡ same t.word (bytes "Macro") → y ≡ same t.word (bytes "Call") → (x || y) ≡ true
            → Makes text c (used (cond x macro procedure) d e.names (cond x e.macros e.procs)) r P → Makes text c (one_of (others e may d) t) r P
        by true y p q or m = this_word "Macro" _ _ t (sym p) m
        by false true p q or m = other_word "Macro" _ _ t (sym p) (this_word "Call" _ _ t (sym q) m)
        by false false p q or m = let z : ◌≡◌ {A = ℕ} 0 1 = cc in absurd (omega arith)

    pub no_body_read : {x y : Bool} → x ≡ same t.word (bytes "Macro") → y ≡ same t.word (bytes "Call") → (x || y) ≡ false
        → Makes text c (one_of (("X", label_head e.pattern) ∷ last_heads may d) t) r P → Makes text c (one_of (others e may d) t) r P
    no_body_read {x} {y} p q or m =
        let n = neither x y or in
        other_word "Macro" _ _ t (sym p ∙ n.0) (other_word "Call" _ _ t (sym q ∙ n.1) m)

    pub named_read : {x : Bool} → x ≡ same t.word (bytes "X") → x ≡ true → Makes text c (label_head known.pattern t.at) r P
        → Makes text c (one_of (("X", label_head e.pattern) ∷ last_heads may d) t) r P
    named_read p o m = this_word "X" _ _ t (sym p ∙ o) (rw h.pattern_is m)

    pub unnamed_read : {x : Bool} → x ≡ same t.word (bytes "X") → x ≡ false → Makes text c (one_of (last_heads may d) t) r P
        → Makes text c (one_of (("X", label_head e.pattern) ∷ last_heads may d) t) r P
    unnamed_read p o m = other_word "X" _ _ t (sym p ∙ o) m

-- ---- V, C, W, Loop, and then those

module _ {text places lists tplaces book rows : List ℕ} {known : Known} {e : Env} (h : Describes text places lists tplaces book rows known e)
    (own : Bool) (d : ℕ) (seen : Bool) {c b r : Cursor} (first : Goes text c any b (ahead text c)) where
  -- a head of assignments, each kept in `given`
  assigns_read : {given : List ℕ} (may : Bool) (k : Assigns → Head) → Gives text b (assigns (names_of text places lists known.names) may) r given
      → Makes text b (assigns e.names may >>= λ a. give (k a)) r (λ x. (a : Assigns) × (x ≡ k a) × Given a given)
  assigns_read may k g =
      rw h.names_are (makes_then _ g.goes (made no_more (λ live. (g.it, refl, given_read may h.ready.usable.tidy g live))))

  pub vector_read : {given : List ℕ} (args : List ℕ) (tables : ℕ) → same (ahead text c).word (bytes "V") ≡ true
      → Gives text b (assigns (names_of text places lists known.names) own) r given
      → Makes text c (head e own d seen) r (λ x. Tells text book rows given args tables (Vector c.at) x)
  unfolding head Tells
  vector_read args tables w g = by_word _ first (this_word "V" _ _ (ahead text c) w (assigns_read own (vecs c.at) g))

  module _ (no-vector : same (ahead text c).word (bytes "V") ≡ false) where
    pub constants_read : {given : List ℕ} (args : List ℕ) (tables : ℕ) → same (ahead text c).word (bytes "C") ≡ true
        → Gives text b (assigns (names_of text places lists known.names) false) r given
        → Makes text c (head e own d seen) r (λ x. Tells text book rows given args tables AssignsOnly x)
    unfolding head Tells
    constants_read args tables w g =
        by_word _ first
        (other_word "V" _ _ (ahead text c) no-vector (this_word "C" _ _ (ahead text c) w (assigns_read false (λ a. sets (assigning a)) g)))

    module _ (no-constants : same (ahead text c).word (bytes "C") ≡ false) {P : Head → Type 0} where
      pub choice_read : same (ahead text c).word (bytes "W") ≡ true → Makes text b (chosen e.tables) r P → Makes text c (head e own d seen) r P
      unfolding head
      choice_read w m =
          by_word _ first
          (other_word "V" _ _ (ahead text c) no-vector (other_word "C" _ _ (ahead text c) no-constants (this_word "W" _ _ (ahead text c) w m)))

      module _ (no-choice : same (ahead text c).word (bytes "W") ≡ false) where
        pub loop_opened : same (ahead text c).word (bytes "Loop") ≡ true → Makes text b (looping d c.at) r P → Makes text c (head e own d seen) r P
        unfolding head
        loop_opened w m =
            by_word _ first
            (other_word "V" _ _ (ahead text c) no-vector
            (other_word "C" _ _ (ahead text c) no-constants
            (other_word "W" _ _ (ahead text c) no-choice (this_word "Loop" _ _ (ahead text c) w m))))

        pub other_read : {u : List ℕ} → same (ahead text c).word (bytes "Loop") ≡ false → u ≡ (ahead text c).word
            → Makes text b (one_of (others e (own && not seen) d) (record { at = c.at; word = u })) r P → Makes text c (head e own d seen) r P
        unfolding head
        other_read no_loop q m =
            by_word _ first
            (other_word "V" _ _ (ahead text c) no-vector
            (other_word "C" _ _ (ahead text c) no-constants
            (other_word "W" _ _ (ahead text c) no-choice (other_word "Loop" _ _ (ahead text c) no_loop (rw q at m)))))
