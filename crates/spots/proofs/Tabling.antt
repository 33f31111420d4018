-- Tables read again: the head and the name of one, its end, the first of Timing, and what stands before all.
use Prim.Native.Nat.{ℕ, ◌<◌}
use mathlib.Core.Path.{◌≡◌, sym, ap, ◌∙◌, subst}
use mathlib.Core.List.{List, [], ◌∷◌, ◌++◌}
use lib.ListN.{length}
use borrow.Author.Tests.{eq-eqb, leb-false}
use Rattle.tokens.specs.Tokens.{Tok, Toks}
use Rattle.meaning.specs.Bounds.{tables_most}
use Rattle.meaning.specs.Reader.{Reader, ok, ◌>>=◌, give, due, until}
use Rattle.meaning.specs.Names.{name, new_name}
use Rattle.meaning.specs.Signals.{Names}
use Rattle.meaning.specs.Timing.{Wave, Tables, quoted, waveforms, table, timing}
use Rattle.held.proofs.Rest.{moves_leaves, moves_due, moves_name, moves_new, moves_until}
use Rattle.held.proofs.Grammar.{moves_quoted, moves_waveforms}
use Rattle.words.specs.Cursor.{Stands, Goes, ahead as ahead_tok}
use Rattle.words.specs.declared.Cursor.{Cursor}
use Rattle.words.proofs.Flow.{went}
use Rattle.timing.specs.Parts.{head_then}
use Rattle.spots.specs.Answers.{Answers, Behind, Opens}
use Rattle.spots.proofs.Following.{parts, behind, next, tested, finished}

-- ---- what stands before a table's waveforms

pub head_follows : {text : List ℕ} {c a b t d e r : Cursor} {n p q s u v : ℕ} (k : ℕ → Reader Tables) (it : Tables) (us : Toks) → Answers text c (head_then k) it us → Goes text c (due "{") a p
    → Goes text a (due "Period") b q → Goes text b (quoted 1) t n → Goes text t (due ";") d s → Goes text d (due "Waveforms") e u → Goes text e (due "{") r v
    → Answers text r (k n) it us
unfolding head_then
head_follows k it us x f g h i j l =
    next (due "{") _ (moves_leaves (moves_due _)) (next (due "Waveforms") _ (moves_leaves (moves_due _)) (next (due ";") _ (moves_leaves (moves_due _))
    (next (quoted 1) _ (moves_leaves (moves_quoted 1)) (next (due "Period") _ (moves_leaves (moves_due _)) (next (due "{") _ (moves_leaves (moves_due _)) x f) g) h) i) j) l

-- ---- a table

-- its waveforms are read from h on, and then its last brace
pub record TableParts (text : List ℕ) (ns : Names) (tabs it : Tables) (us : Toks) (a h : Cursor) (n : ℕ) : Type 0 where
  pub few : length tabs < tables_most
  pub waves : List Wave
  pub rest : Toks
  pub read : Answers text h (until "}" (waveforms ns) []) waves rest
  pub ends : (due "}" >>= λ q. give (tabs ++ (ahead_tok text a, record { period = n; waves = waves }) ∷ [])) rest ≡ ok it us

module _ (ns : Names) (tabs : Tables) where
  -- what follows a table's name, and its head
  abbrev then_waves : Tok → ℕ → Reader Tables
  then_waves t m = until "}" (waveforms ns) [] >>= λ ws. due "}" >>= λ q. give (tabs ++ (t, record { period = m; waves = ws }) ∷ [])

  abbrev then_head : Tok → Reader Tables
  then_head t = head_then (then_waves t)

  pub table_parts : {text : List ℕ} {c a d h : Cursor} {n p : ℕ} {it : Tables} {us : Toks} → Answers text c (table ns tabs) it us → Goes text c (due "WaveformTable") a p
      → Goes text a name d (ahead_tok text a) → ((k : ℕ → Reader Tables) (it : Tables) (us : Toks) → Answers text d (head_then k) it us → Answers text h (k n) it us)
      → TableParts text ns tabs it us a h n
  unfolding table new_name head_then
  table_parts {text} {c} {a} {d} {h} {n} {p} {it} {us} x f g k =
      let room = tested _ _ _ _ (next (due "WaveformTable") _ (moves_leaves (moves_due _)) x f) in
      let named = parts (new_name tabs) then_head room.1 in
      let unused = tested _ _ _ _ (next name _ (moves_leaves moves_name) named.2 g) in
      let own = finished (ahead_tok text a) unused.1 in
      let on = behind (new_name tabs) then_head (moves_leaves (moves_new tabs)) named.2 named.3 own.1 in
      let at-waves = k (then_waves named.0) it us on in
      let read = parts (until "}" (waveforms ns) []) (λ ws. due "}" >>= λ q. give (tabs ++ (named.0, record { period = n; waves = ws }) ∷ [])) at-waves in
      record {
        few = leb-false tables_most (length tabs) room.0;
        waves = read.0;
        rest = read.1;
        read = read.2;
        ends = subst (λ (t : Tok). (due "}" >>= λ q. give (tabs ++ (t, record { period = n; waves = read.0 }) ∷ [])) read.1 ≡ ok it us) (sym own.0) read.3;
      }

  pub table_ends : {text : List ℕ} {a h e r : Cursor} {n q : ℕ} {it : Tables} {us : Toks} (x : TableParts text ns tabs it us a h n) → Behind text e x.rest → Goes text e (due "}") r q
      → (it ≡ tabs ++ (ahead_tok text a, record { period = n; waves = x.waves }) ∷ []) × Behind text r us
  table_ends {text} {a} {h} {e} {r} {n} {q} {it} {us} x b g =
      let last : (List Wave → Reader Tables) = λ ws. due "}" >>= λ q. give (tabs ++ (ahead_tok text a, record { period = n; waves = ws }) ∷ []) in
      let on = behind (until "}" (waveforms ns) []) last (moves_leaves (moves_until (waveforms ns) (λ s. moves_leaves (moves_waveforms ns s)) "}" [])) x.read x.ends b in
      let end = finished (tabs ++ (ahead_tok text a, record { period = n; waves = x.waves }) ∷ []) (next (due "}") _ (moves_leaves (moves_due _)) on g) in
      (sym end.0, end.1)

-- ---- Timing{ .. }

pub timing_first : {text : List ℕ} {c a b : Cursor} {p q : ℕ} (ns : Names) {it : Tables} {us : Toks} → Answers text c (timing ns) it us → Goes text c (due "Timing") a p → Goes text a (due "{") b q
    → (tabs : Tables) × (vs : Toks) × Answers text b (table ns []) tabs vs × (until "}" (table ns) tabs vs ≡ ok it us)
unfolding timing
timing_first ns x f g = parts (table ns []) (until "}" (table ns)) (next (due "{") _ (moves_leaves (moves_due _)) (next (due "Timing") _ (moves_leaves (moves_due _)) x f) g)

-- ---- STIL 1.0;

pub opening_follows : {text : List ℕ} {c a b r : Cursor} {p q s : ℕ} → Stands text 0 c → Goes text c (due "STIL") a p → Goes text a (due "1.0") b q → Goes text b (due ";") r s
    → (ts : Toks) → Opens text ts → Behind text r ts
opening_follows {text} {c} {a} {b} {r} st f g h ts o =
    let x : Answers text c (due "STIL" >>= λ p. due "1.0" >>= λ q. due ";") o.last ts = record { on = eq-eqb c.no 0 st.on; placed = (0, st.there); gives = ap (due "STIL" >>= λ p. due "1.0" >>= λ q. due ";") st.there ∙ o.read } in
    let y = next (due "1.0") _ (moves_leaves (moves_due _)) (next (due "STIL") _ (moves_leaves (moves_due _)) x f) g in
    let w = went h y.on y.gives in
    record { on = w.on; there = w.behind }
