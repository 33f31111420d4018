-- What was noted stays noted, and what is read behind it is noted too.
use Prim.Native.Nat.{ℕ, ◌<◌}
use mathlib.Core.List.{List, [], ◌∷◌}
use Rattle.meaning.specs.Body.{Assigns, Args, Setting, assigning, choosing, Kind, Way, looped, shifted, entered, Body, done, vec, set', inner}
use Rattle.meaning.specs.Statements.{Decls, Env}
use Rattle.held.specs.Held.{All}
use Rattle.measures.specs.Measures.{joined}
use Rattle.noted.specs.Noted.{Grows, Gives, Supplies, Sets, Stated, Enters, Noted}
use Rattle.noted.specs.Known.{AllNoted, Knows}
use Rattle.bodies.specs.Bodies.{Notes}

-- ---- with more marks

module _ {used used' : List ℕ} (g : Grows used used') where
  gives_grow : (a : Assigns) → Gives used a → Gives used' a
  unfolding Gives
  gives_grow [] h = tt
  gives_grow (x ∷ xs) h = (λ e. g.more x.0 x.1 (h.0 e), gives_grow xs h.1)

  supplies_grow : (a : Args) → Supplies used a → Supplies used' a
  unfolding Supplies
  supplies_grow [] h = tt
  supplies_grow (x ∷ xs) h = (λ c i. g.more x.0 c (h.0 c i), supplies_grow xs h.1)

  enters_grow : (w : Way) → Enters used w → Enters used' w
  unfolding Enters
  enters_grow (looped n) h = tt
  enters_grow shifted h = tt
  enters_grow (entered k t a) h = (h.0, supplies_grow a h.1)

  module _ (tables : ℕ) where
    sets_grow : (x : Setting) → Sets tables used x → Sets tables used' x
    unfolding Sets
    sets_grow (assigning a) h = gives_grow a h
    sets_grow (choosing k) h = h

    noted_grow : (b : Body) → Noted tables used b → Noted tables used' b
    unfolding Noted
    noted_grow done h = tt
    noted_grow (vec p a r) h = (gives_grow a h.0, noted_grow r h.1)
    noted_grow (set' x r) h = (sets_grow x h.0, noted_grow r h.1)
    noted_grow (inner w b r) h = (enters_grow w h.0, noted_grow b h.1, noted_grow r h.2)

    pub all_grow : (ds : Decls) → AllNoted tables used ds → AllNoted tables used' ds
    unfolding All
    all_grow [] h = tt
    all_grow (x ∷ xs) h = (noted_grow x.1.body h.0, all_grow xs h.1)

  pub knows_grow : {tables : ℕ} {e : Env} → Knows tables used e → Knows tables used' e
  knows_grow {tables} {e} h = record { macros = all_grow tables e.macros h.macros; procs = all_grow tables e.procs h.procs }

-- statements behind others
noted_joined : (tables : ℕ) (used : List ℕ) (a b : Body) → Noted tables used a → Noted tables used b → Noted tables used (joined a b)
unfolding Noted joined
noted_joined tables used done b h k = k
noted_joined tables used (vec p x r) b h k = (h.0, noted_joined tables used r b h.1 k)
noted_joined tables used (set' x r) b h k = (h.0, noted_joined tables used r b h.1 k)
noted_joined tables used (inner w c r) b h k = (h.0, h.1, noted_joined tables used r b h.2 k)

-- ---- one statement

module _ {tables : ℕ} {e : Env} {used used' : List ℕ} where
  pub notes_none : Notes tables e used used' done
  unfolding Noted
  notes_none = record { noted = λ k. tt }

  pub notes_vector : {p : ℕ} {a : Assigns} → Gives used' a → Notes tables e used used' (vec p a done)
  unfolding Noted
  notes_vector h = record { noted = λ k. (h, tt) }

  pub notes_assigning : {a : Assigns} → Gives used' a → Notes tables e used used' (set' (assigning a) done)
  unfolding Noted Sets
  notes_assigning h = record { noted = λ k. (h, tt) }

  pub notes_choosing : {n : ℕ} → n < tables → Notes tables e used used' (set' (choosing n) done)
  unfolding Noted Sets
  notes_choosing h = record { noted = λ k. (h, tt) }

  pub notes_shift : {p : ℕ} {a : Assigns} → Gives used' a → Notes tables e used used' (inner shifted (vec p a done) done)
  unfolding Noted Enters
  notes_shift h = record { noted = λ k. (tt, (h, tt), tt) }

  module _ (g : Grows used used') where
    -- one that enters a body which was noted
    pub notes_entered : {k : Kind} {t : ℕ} {a : Args} {b : Body} → Stated k → (Knows tables used e → Noted tables used b) → Supplies used' a
        → Notes tables e used used' (inner (entered k t a) b done)
    unfolding Noted Enters
    notes_entered {b = b} i h s = record { noted = λ k. ((i, s), noted_grow g tables b (h k), tt) }

    module _ {used'' : List ℕ} where
      -- a Loop, behind its head
      pub notes_looped : {n : ℕ} {b : Body} → Notes tables e used' used'' b → Notes tables e used used'' (inner (looped n) b done)
      unfolding Noted Enters
      notes_looped h = record { noted = λ k. (tt, h.noted (knows_grow g k), tt) }

      -- statements behind others
      pub notes_then : (a b : Body) → Grows used' used'' → Notes tables e used used' a → Notes tables e used' used'' b → Notes tables e used used'' (joined a b)
      notes_then a b f h i =
          record { noted = λ k. noted_joined tables used'' a b (noted_grow f tables a (h.noted k)) (i.noted (knows_grow g k)) }
