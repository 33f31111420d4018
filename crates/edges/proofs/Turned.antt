-- THE THEOREM: the first failing pair's later cycle lies in no later turn than the third of any Loop around it.
use mathlib.Core.Path.{◌≡◌, refl, sym, ap, ◌∙◌, subst}
use Prim.Native.Nat.{ℕ, zero, suc, ◌≤◌}
use native.Mathlib.Omega.{arith}
use mathlib.Core.Bool.{Bool, true, false}
use mathlib.Core.Option.{Option, none, some}
use mathlib.Core.List.{List, [], ◌∷◌, ◌++◌}
use Rattle.meaning.specs.Timing.{Tables}
use Rattle.meaning.specs.Body.{macro, procedure, listed, Way, looped, shifted, entered, Body, done, vec, set', inner}
use Rattle.meaning.specs.Run.{shift_of, State, Cycle, Played, puts, changed, cycle_at, follow, again, entering, playing, play, start, cycles_of, alone}
use Rattle.meaning.specs.Document.{Read}
use Rattle.meaning.proofs.Turns.{IfLoop, Plain, Good, plain_twice}
use Rattle.meaning.specs.Edges.{last_behind, fine_behind, failing_behind, first_failing_pair, listed_cycles, first_among, first_in_run}
use Rattle.edges.specs.Three.{turns_most}
use Rattle.edges.specs.Turned.{Turnings, in_turn, loop_turns, shift_turns, around, turns_in, turns_of_failing, turns_in_run, NoneLater}
use Rattle.edges.proofs.Behind.{last_twice}
use Rattle.edges.proofs.Texts.{good_alone, RunOf, read_good}

module _ (tabs : Tables) where
  -- a row of cycles and their turns: as many up to the first failing pair, whose later cycle lies in none behind the third
  pub data Early : Option Cycle → List Cycle → Turnings → Type 0 where
    ended : {o : Option Cycle} → Early o [] []
    on : {o : Option Cycle} {d : Cycle} {l : List Cycle} {t : List ℕ} {ts : Turnings} → fine_behind tabs o d ≡ true → Early (some d) l ts → Early o (d ∷ l) (t ∷ ts)
    fails : {o : Option Cycle} {d : Cycle} {l : List Cycle} {t : List ℕ} {ts : Turnings} → fine_behind tabs o d ≡ false → NoneLater t → Early o (d ∷ l) (t ∷ ts)

  -- where the pair is fine, it is the rest that fails; else it is its later cycle
  fine_on : (o : Option Cycle) (d : Cycle) (l : List Cycle) → fine_behind tabs o d ≡ true → failing_behind tabs o (d ∷ l) ≡ failing_behind tabs (some d) l
  unfolding failing_behind
  fine_on o d l e = ap (λ (w : Bool). elim w [ true ↦ failing_behind tabs (some d) l | false ↦ some d.at ]) e

  fails_there : (o : Option Cycle) (d : Cycle) (l : List Cycle) → fine_behind tabs o d ≡ false → failing_behind tabs o (d ∷ l) ≡ some d.at
  unfolding failing_behind
  fails_there o d l e = ap (λ (w : Bool). elim w [ true ↦ failing_behind tabs (some d) l | false ↦ some d.at ]) e

  -- a row, and what is behind it where it does not fail
  early-++ : {o : Option Cycle} {a : List Cycle} (b : List Cycle) {ts : Turnings} (us : Turnings) → Early o a ts
      → (failing_behind tabs o a ≡ none → Early (last_behind o a) b us) → Early o (a ++ b) (ts ++ us)
  unfolding failing_behind last_behind
  early-++ b us ended k = k refl
  early-++ b us (on {o} {d} {l} e h) k = on e (early-++ b us h λ f. k (fine_on o d l e ∙ f))
  early-++ b us (fails e n) k = fails e n

  -- one Loop more around, in a turn up to the third
  early_turn : {o : Option Cycle} {l : List Cycle} {ts : Turnings} (k : ℕ) → k ≤ turns_most → Early o l ts → Early o l (in_turn k ts)
  unfolding in_turn NoneLater
  early_turn k m ended = ended
  early_turn k m (on e h) = on e (early_turn k m h)
  early_turn k m (fails {o} {d} {l} {t} {ts} e n) = fails {t = k ∷ t} e (m, n)

  -- and in any turn, where none fails
  early_any : {o : Option Cycle} {l : List Cycle} {ts : Turnings} (k : ℕ) → failing_behind tabs o l ≡ none → Early o l ts → Early o l (in_turn k ts)
  unfolding in_turn
  early_any k f ended = ended
  early_any k f (on {o} {d} {l} e h) = on e (early_any k (sym (fine_on o d l e) ∙ f) h)
  early_any k f (fails {o} {d} {l} e n) =
      let no : ◌≡◌ {A = Option ℕ} (some d.at) none = sym (fails_there o d l e) ∙ f in
      let z : ◌≡◌ {A = ℕ} 0 1 = cc in
      absurd (omega arith)

  -- from every state and behind every cycle
  record Always (f : State → Played) (ts : Turnings) : Type 0 where
    all : (s : State) (o : Option Cycle) → Early o (f s).1 ts

  always_then : {f g : State → Played} {ts us : Turnings} → Always f ts → Always g us → Always (λ s. follow (f s) g) (ts ++ us)
  unfolding follow
  always_then {f} {g} {ts} {us} h k = record { all = λ s o. early-++ (g (f s).0).1 us (h.all s o) λ e. k.all (f s).0 (last_behind o (f s).1) }

  always_none : (f : State → State) → Always (λ s. (f s, [])) []
  always_none f = record { all = λ s o. ended }

  always_again : (n : ℕ) {f : State → Played} {ts : Turnings} → Always f ts → Always (again n f) (shift_turns n ts)
  unfolding again shift_turns
  always_again zero h = always_none (λ s. s)
  always_again (suc n) h = always_then h (always_again n h)

  -- ---- a Loop

  module _ (f : State → Played) (ts : Turnings) (h : Always f ts) where
    -- the turns from turn k on, from s behind o; and the same where a turn leaves s and o as they are
    abbrev Turns : ℕ → ℕ → State → Option Cycle → Type 0
    Turns n k s o = Early o (again n f s).1 (loop_turns n k ts)

    turns_on : (n k : ℕ) {s s' : State} {o o' : Option Cycle} → s' ≡ s → o' ≡ o → Turns n k s o → Turns n k s' o'
    turns_on n k {s} {s'} {o} {o'} e q x = subst (λ (u : State). Turns n k u o') (sym e) (subst (Turns n k s) (sym q) x)

    -- turns that leave the state as it is, behind one like them that did not fail: none of them fails
    early_steady : (n k : ℕ) (s : State) (o : Option Cycle) → (f s).0 ≡ s → last_behind o (f s).1 ≡ o → failing_behind tabs o (f s).1 ≡ none → Turns n k s o
    unfolding again follow loop_turns
    early_steady zero k s o e q x = ended
    early_steady (suc n) k s o e q x = early-++ _ _ (early_any k x (h.all s o)) λ _. turns_on n (suc k) e q (early_steady n (suc k) s o e q x)

    -- from the third turn on: the second was like it
    early_third : (n : ℕ) (s : State) (o : Option Cycle) → (f s).0 ≡ s → last_behind o (f s).1 ≡ o → Turns n 3 s o
    unfolding again follow loop_turns
    early_third zero s o e q = ended
    early_third (suc n) s o e q = early-++ _ _ (early_turn 3 (omega arith) (h.all s o)) λ x. turns_on n 4 e q (early_steady n 4 s o e q x)

    early_second : (n : ℕ) (s : State) (o : Option Cycle) → (f s).0 ≡ s → Turns n 2 s o
    unfolding again follow loop_turns
    early_second zero s o e = ended
    early_second (suc n) s o e =
        early-++ _ _ (early_turn 2 (omega arith) (h.all s o)) λ _. turns_on n 3 e refl (early_third n s (last_behind o (f s).1) e (last_twice o (f s).1))

    always_loop : ((s : State) → (f (f s).0).0 ≡ (f s).0) → (n : ℕ) → Always (again n f) (loop_turns n 1 ts)
    unfolding again follow loop_turns
    always_loop same zero = always_none (λ s. s)
    always_loop same (suc n) = record {
      all = λ s o. early-++ _ _ (early_turn 1 (omega arith) (h.all s o)) λ _. early_second n (f s).0 (last_behind o (f s).1) (same s);
    }

  -- ---- bodies

  always_playing : (t : ℕ) (w : Way) (b : Body) → IfLoop w (Plain b) → ((u : ℕ) → Always (play u b) (turns_in u b))
      → Always (playing t w (play (shift_of t w) b)) (around t w (turns_in (shift_of t w) b))
  unfolding playing entering around shift_of
  always_playing t (looped n) b p h = always_loop (play t b) (turns_in t b) (h t) (plain_twice t b p) n
  always_playing t shifted b p h = always_again t (h t)
  always_playing t (entered macro u a) b p h = record { all = λ s o. (h u).all _ o }
  always_playing t (entered procedure u a) b p h = record { all = λ s o. (h u).all _ o }
  always_playing t (entered listed u a) b p h = record { all = λ s o. (h u).all _ o }

  -- one cycle, in no Loop
  early_one : (o : Option Cycle) (d : Cycle) → Early o (d ∷ []) ([] ∷ [])
  unfolding NoneLater
  early_one o d = by (fine_behind tabs o d) refl
    where
      by : (w : Bool) → fine_behind tabs o d ≡ w → Early o (d ∷ []) ([] ∷ [])
      by true e = on e ended
      by false e = fails e tt

  always : (b : Body) → Good b → (t : ℕ) → Always (play t b) (turns_in t b)
  unfolding Good play turns_in
  always done h t = always_none (λ s. s)
  always (vec p a r) h t = always_then {f = λ s. (puts a s, cycle_at p (puts a s) ∷ [])} {ts = [] ∷ []} (record { all = λ s o. early_one o _ }) (always r h t)
  always (set' x r) h t = record { all = λ s o. (always r h t).all (changed x s) o }
  always (inner w b r) h t = always_then (always_playing t w b h.0 (always b h.1)) (always r h.2 t)

  -- ---- and so

  -- the turns of the first failing pair's later cycle, where there is one
  told : {o : Option Cycle} {l : List Cycle} {ts : Turnings} → Early o l ts → (p : ℕ) → failing_behind tabs o l ≡ some p
      → (t : List ℕ) × (turns_of_failing tabs o l ts ≡ some t) × NoneLater t
  unfolding failing_behind turns_of_failing
  told ended p f = let z : ◌≡◌ {A = ℕ} 0 1 = cc in absurd (omega arith)
  told (on {o} {d} {l} {t} {ts} e h) p f =
      let x = told h p (sym (fine_on o d l e) ∙ f) in
      (x.0, ap (λ (w : Bool). elim w [ true ↦ turns_of_failing tabs (some d) l ts | false ↦ some t ]) e ∙ x.1, x.2)
  told (fails {o} {d} {l} {t} {ts} e n) p f = (t, ap (λ (w : Bool). elim w [ true ↦ turns_of_failing tabs (some d) l ts | false ↦ some t ]) e, n)

  pub none_later : (b : Body) → Good b → (t : ℕ) (s : State) (o : Option Cycle) (p : ℕ) → failing_behind tabs o (play t b s).1 ≡ some p
      → (ks : List ℕ) × (turns_of_failing tabs o (play t b s).1 (turns_in t b) ≡ some ks) × NoneLater ks
  none_later b h t s o p = told ((always b h t).all s o) p

  -- where no pair fails, there are none
  told_none : (o : Option Cycle) (l : List Cycle) (ts : Turnings) → failing_behind tabs o l ≡ none → turns_of_failing tabs o l ts ≡ none
  unfolding failing_behind turns_of_failing
  told_none o [] ts f = refl
  told_none o (d ∷ l) [] f = refl
  told_none o (d ∷ l) (t ∷ ts) f = by (fine_behind tabs o d) f (told_none (some d) l ts)
    where
      by : (w : Bool) → ◌≡◌ {A = Option ℕ} (elim w [ true ↦ failing_behind tabs (some d) l | false ↦ some d.at ]) none
          → (failing_behind tabs (some d) l ≡ none → turns_of_failing tabs (some d) l ts ≡ none)
          → ◌≡◌ {A = Option (List ℕ)} (elim w [ true ↦ turns_of_failing tabs (some d) l ts | false ↦ some t ]) none
      by true f ih = ih f
      by false f ih = let z : ◌≡◌ {A = ℕ} 0 1 = cc in absurd (omega arith)

  -- ---- a run

  module _ (n : ℕ) where
    pub run_none_later : (r : Body) → Good r → (p : ℕ) → first_in_run tabs n r ≡ some p → (ks : List ℕ) × (turns_in_run tabs n r ≡ some ks) × NoneLater ks
    unfolding Good first_in_run listed_cycles first_among first_failing_pair turns_in_run cycles_of
    run_none_later done h p f = let z : ◌≡◌ {A = ℕ} 0 1 = cc in absurd (omega arith)
    run_none_later (vec q a r) h p f = run_none_later r h p f
    run_none_later (set' x r) h p f = run_none_later r h p f
    run_none_later (inner w b r) h p f = by (failing_behind tabs none l) refl f (run_none_later r h.2 p)
      where
        l : List Cycle
        l = cycles_of n (alone b)

        ts : Turnings
        ts = turns_in 0 (alone b)

        rest : Option (List ℕ)
        rest = turns_in_run tabs n r

        good : Good (alone b)
        good = good_alone b h.1

        by : (o : Option ℕ) → failing_behind tabs none l ≡ o → ◌≡◌ {A = Option ℕ} (elim o [ some p ↦ some p | none ↦ first_in_run tabs n r ]) (some p)
            → (first_in_run tabs n r ≡ some p → (ks : List ℕ) × (rest ≡ some ks) × NoneLater ks)
            → (ks : List ℕ) × (◌≡◌ {A = Option (List ℕ)} (elim (turns_of_failing tabs none l ts) [ some ks ↦ some ks | none ↦ rest ]) (some ks)) × NoneLater ks
        by none e f ih =
            let x = ih f in
            (x.0, ap (λ (q : Option (List ℕ)). elim q [ some ks ↦ some ks | none ↦ rest ]) (told_none none l ts e) ∙ x.1, x.2)
        by (some q) e f ih =
            let x = none_later (alone b) good 0 (start n) none q e in
            (x.0, ap (λ (q : Option (List ℕ)). elim q [ some ks ↦ some ks | none ↦ rest ]) x.1, x.2)

-- THE THEOREM, of every text that is read
pub text_none_later : (text : List ℕ) {d : Read} {r : Body} → RunOf text d r → (n p : ℕ) → first_in_run d.tables n r ≡ some p
    → (ks : List ℕ) × (turns_in_run d.tables n r ≡ some ks) × NoneLater ks
text_none_later text {d} {r} x n p = run_none_later d.tables n r (read_good text x) p
