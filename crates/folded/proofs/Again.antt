-- A folded text, folded again, is the same bytes: it has the same flat text.
use Prim.Native.Nat.{ℕ, suc}
use native.Mathlib.Omega.{arith}
use mathlib.Core.Path.{◌≡◌, refl, sym, ap, ap₂, ◌∙◌, subst}
use mathlib.Core.Option.{Option, none, some}
use mathlib.Core.List.{List, [], ◌∷◌, ◌++◌, append-nil}
use Rattle.tokens.specs.Tokens.{Tok}
use Rattle.meaning.specs.Timing.{Event, Wave}
use Rattle.meaning.specs.Body.{Body, done, vec, set', inner}
use Rattle.meaning.specs.Run.{Cycle, cycles_of, alone}
use Rattle.meaning.specs.Services.{wave_of}
use Rattle.meaning.proofs.Unplaced.{unplaced}
use Rattle.folded.specs.Flat.{characters, Entries, entries_of, chart, charts_from, Row, table_of, row_of, rows_of, listed_rows, breaks, onto, parted, parted_all, lines_from, lines_of, stretches}
use Rattle.folded.specs.Shapes.{concat, Steady, Begins}
use Rattle.folded.specs.Same.{words_of, placeless}
use Rattle.folded.proofs.StatementsBack.{body_of}
use Rattle.folded.proofs.Stretches.{All, all_front, all_back}
use Rattle.folded.proofs.PlayBack.{Fair, cycle_of, cycles_for, run_back, run_played}
use Rattle.folded.proofs.RunBack.{placeless_cycles}

-- ---- charts by names and waveforms alone

entries_alike : (s : ℕ) (ws vs : List Wave) → ((s c : ℕ) → wave_of s c ws ≡ wave_of s c vs) → (cs : List ℕ) → entries_of s ws cs ≡ entries_of s vs cs
unfolding entries_of
entries_alike s ws vs h [] = refl
entries_alike s ws vs h (c ∷ cs) =
    ap₂ (λ (o : Option (List Event)) (l : Entries). elim o as (λ x. Entries) [ none ↦ l | some es ↦ (c, es) ∷ l ]) (h s c) (entries_alike s ws vs h cs)

pub charts_alike : (s : ℕ) (ts us : List Tok) (ws vs : List Wave) → words_of ts ≡ words_of us → ((s c : ℕ) → wave_of s c ws ≡ wave_of s c vs) → charts_from s ts ws ≡ charts_from s us vs
unfolding charts_from words_of
charts_alike s [] [] ws vs e h = refl
charts_alike s [] (u ∷ us) ws vs e h = absurd (let z : ◌≡◌ {A = ℕ} 0 1 = cc in omega arith)
charts_alike s (t ∷ ts) [] ws vs e h = absurd (let z : ◌≡◌ {A = ℕ} 0 1 = cc in omega arith)
charts_alike s (t ∷ ts) (u ∷ us) ws vs e h =
    let a : t.word ≡ u.word = cc in
    let b : words_of ts ≡ words_of us = cc in
    ap₂ (λ (w : List ℕ) (x : Entries). chart w s x (charts_from (suc s) ts ws)) a (entries_alike s ws vs h characters)
    ∙ ap (chart u.word s (entries_of s vs characters)) (charts_alike (suc s) ts us ws vs b h)

-- ---- Patterns that are parted already

steady_rest : (x : Row) (p : List Row) → Steady x.pins p → Begins p
unfolding Steady
steady_rest x [] b = tt
steady_rest x (y ∷ p) b = b.1

onto_steady : (x : Row) (p : List Row) → Steady x.pins p → onto x (p ∷ []) ≡ (x ∷ p) ∷ []
unfolding onto breaks Steady
onto_steady x [] b = refl
onto_steady x (y ∷ p) b = rw (b.0, onto)

-- nothing parts a steady Pattern
parted_steady : (p : List Row) → Begins p → parted p ≡ p ∷ []
unfolding parted
parted_steady [] b = refl
parted_steady (x ∷ p) b = ap (onto x) (parted_steady p (steady_rest x p b)) ∙ onto_steady x p b

pub parted_again : (ps : List (List Row)) → All Begins ps → parted_all ps ≡ ps
unfolding parted_all
parted_again [] b = refl
parted_again (p ∷ ps) b = ap₂ (λ (a c : List (List Row)). a ++ c) (parted_steady p b.0) (parted_again ps b.1)

-- ---- the rows of listed patterns, without places

rows_placeless : (cs : List Cycle) → rows_of (placeless cs) ≡ rows_of cs
unfolding rows_of placeless row_of
rows_placeless [] = refl
rows_placeless (c ∷ cs) = ap (λ (l : List Row). row_of c ∷ l) (rows_placeless cs)

rows_unplaced : (n : ℕ) (b : Body) → rows_of (cycles_of n (unplaced b)) ≡ rows_of (cycles_of n b)
rows_unplaced n b = sym (rows_placeless (cycles_of n (unplaced b))) ∙ ap rows_of (placeless_cycles n b) ∙ rows_placeless (cycles_of n b)

alone_unplaced : (n : ℕ) (b : Body) → rows_of (cycles_of n (alone (unplaced b))) ≡ rows_of (cycles_of n (alone b))
unfolding alone unplaced
alone_unplaced n b = rows_unplaced n (alone b)

listed_unplaced : (n : ℕ) (r : Body) → listed_rows n (unplaced r) ≡ listed_rows n r
unfolding listed_rows unplaced
listed_unplaced n done = refl
listed_unplaced n (vec p a r) = listed_unplaced n r
listed_unplaced n (set' x r) = listed_unplaced n r
listed_unplaced n (inner w b r) = ap₂ (λ (x : List Row) (l : List (List Row)). x ∷ l) (alone_unplaced n b) (listed_unplaced n r)

rows_shown : (xs : List Row) → rows_of (cycles_for xs) ≡ xs
unfolding rows_of cycles_for row_of cycle_of table_of
rows_shown [] = refl
rows_shown (x ∷ xs) = ap (λ (l : List Row). x ∷ l) (rows_shown xs)

-- a Pattern alone has its rows
one_back : (n : ℕ) (p : List Row) → Begins p → All (Fair n) p → rows_of (cycles_of n (alone (body_of (lines_from none (stretches p))))) ≡ p
unfolding alone run_back lines_of concat
one_back n p b f =
    ap rows_of (run_played n (p ∷ []) (b, tt) (subst (All (Fair n)) (sym (append-nil p)) f)) ∙ ap (λ (l : List Row). rows_of (cycles_for l)) (append-nil p) ∙ rows_shown p

-- the written Patterns are the listed patterns
listed_back : (n : ℕ) (ps : List (List Row)) → All Begins ps → All (Fair n) (concat ps) → listed_rows n (run_back (lines_of ps)) ≡ ps
unfolding listed_rows run_back lines_of concat
listed_back n [] b f = refl
listed_back n (p ∷ ps) b f =
    ap₂ (λ (x : List Row) (l : List (List Row)). x ∷ l) (one_back n p b.0 (all_front (Fair n) p (concat ps) f)) (listed_back n ps b.1 (all_back (Fair n) p (concat ps) f))

pub run_listed : (n : ℕ) (r : Body) (ps : List (List Row)) → unplaced r ≡ run_back (lines_of ps) → All Begins ps → All (Fair n) (concat ps) → listed_rows n r ≡ ps
run_listed n r ps e b f = sym (listed_unplaced n r) ∙ ap (listed_rows n) e ∙ listed_back n ps b f
