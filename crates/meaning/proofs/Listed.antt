-- What each listed pattern gives: together they are the run, and each is what a window shows at its first cycle.
use mathlib.Core.Path.{◌≡◌, refl, sym, ap, ap₂, ◌∙◌, subst}
use Prim.Native.Nat.{ℕ, suc, ◌+◌}
use mathlib.Core.Option.{Option, none, some}
use mathlib.Core.List.{List, [], ◌∷◌, ◌++◌, append-nil}
use lib.ListN.{length, take, drop, length-append}
use lib.Seq.{take_at, drop_at, drop-drop}
use Rattle.tokens.specs.Tokens.{Tok}
use Rattle.meaning.specs.Refusals.{not_defined}
use Rattle.meaning.specs.Names.{find}
use Rattle.meaning.specs.Body.{listed, entered, Body, done, inner}
use Rattle.meaning.specs.Statements.{Decl, Decls}
use Rattle.meaning.specs.Run.{Cycle, cycles, follow, entering, playing, play, shift_of, start, cycles_of, alone}
use Rattle.meaning.specs.Meaning.{Answer, given, refused, answering, run_of, Meaning, meaning, firsts}
use Rattle.meaning.specs.Services.{rows, window_rows}
use Rattle.meaning.specs.Edited.{ListedRows, rows_of, listed_in, listed_of, listed_patterns, joined_rows, joined_cycles}
use Rattle.meaning.proofs.Rows.{rows_are_cycles}
use Rattle.meaning.proofs.Windows.{rows-++, window_rows_lem}
use Rattle.meaning.proofs.Accepted.{accepted, never}

-- ---- cycles that are those of listed patterns, one after the other

unfoldable Plays : ℕ → List ListedRows → List Cycle → Type 0
Plays mark [] cs = cs ≡ []
Plays mark (x ∷ l) cs =
    (a : List Cycle) × (b : List Cycle) × (cs ≡ a ++ b) × (length a ≡ x.cycles) × (rows mark a ≡ x.rows) × Plays mark l b

plays_rows : (mark : ℕ) (l : List ListedRows) (cs : List Cycle) → Plays mark l cs → joined_rows l ≡ rows mark cs
unfolding Plays joined_rows rows
plays_rows mark [] cs h = ap (rows mark) (sym h)
plays_rows mark (x ∷ l) cs h =
    ap₂ (λ (a b : List ℕ). a ++ b) (sym h.4) (plays_rows mark l h.1 h.5) ∙ sym (rows-++ mark h.0 h.1) ∙ ap (rows mark) (sym h.2)

plays_cycles : (mark : ℕ) (l : List ListedRows) (cs : List Cycle) → Plays mark l cs → joined_cycles l ≡ length cs
unfolding Plays joined_cycles
plays_cycles mark [] cs h = ap length (sym h)
plays_cycles mark (x ∷ l) cs h =
    ap₂ (λ (a b : ℕ). a + b) (sym h.3) (plays_cycles mark l h.1 h.5) ∙ sym (length-append h.0 h.1) ∙ ap length (sym h.2)

-- those of one of them, behind those before it
plays_one : (mark : ℕ) (before : List ListedRows) (x : ListedRows) (after : List ListedRows) (cs : List Cycle) → Plays mark (before ++ x ∷ after) cs
    → rows mark (take x.cycles (drop (joined_cycles before) cs)) ≡ x.rows
unfolding Plays joined_cycles
plays_one mark [] x after cs h =
    ap (λ (l : List Cycle). rows mark (take x.cycles l)) h.2 ∙ ap (rows mark) (take_at h.0 h.1 x.cycles h.3) ∙ h.4
plays_one mark (y ∷ before) x after cs h =
    let d : drop (y.cycles + joined_cycles before) cs ≡ drop (joined_cycles before) h.1 =
    sym (drop-drop (joined_cycles before) y.cycles cs) ∙ ap (λ (l : List Cycle). drop (joined_cycles before) (drop y.cycles l)) h.2
    ∙ ap (drop (joined_cycles before)) (drop_at h.0 h.1 y.cycles h.3) in
    ap (λ (l : List Cycle). rows mark (take x.cycles l)) d ∙ plays_one mark before x after h.1 h.5

-- ---- those of the run are

-- a listed pattern starts anew and leaves no trace, so that its cycles are those it has alone
pub cycles_listed : (n : ℕ) (b r : Body) → cycles_of n (inner (entered listed 0 []) b r) ≡ cycles_of n (alone b) ++ cycles_of n r
unfolding cycles_of alone play playing entering follow shift_of
cycles_listed n b r = ap (λ (l : List Cycle). l ++ (play 0 r (start n)).1) (sym (append-nil (entering listed [] (play 0 b) (start n)).1))

no_cycles : (n : ℕ) → cycles_of n done ≡ []
unfolding cycles_of play
no_cycles n = refl

-- the patterns k that the names l list, against the run r
abbrev Shares : ℕ → ℕ → List Tok → List ListedRows → Body → Type 0
Shares mark n l k r = Plays mark k (cycles_of n r) × (length k ≡ length l)

shares : (mark n : ℕ) (ps : Decls) (l : List Tok) (r : Body) → run_of ps l ≡ given r → Shares mark n l (listed_in mark n ps l) r
unfolding run_of answering listed_in rows_of Plays
shares mark n ps [] r e = let q : r ≡ done = cc in (ap (cycles_of n) q ∙ no_cycles n, refl)
shares mark n ps (t ∷ l) r e = by (find ps t.word) e (shares mark n ps l)
  where
    on : (d : Decl) (a : Answer Body) → answering a (λ r. given (inner (entered listed 0 []) d.body r)) ≡ given r
        → ((s : Body) → a ≡ given s → Shares mark n l (listed_in mark n ps l) s) → Shares mark n (t ∷ l) (rows_of mark n t.word d.body ∷ listed_in mark n ps l) r
    on d (refused m p) e ih = never e
    on d (given s) e ih =
        let q : r ≡ inner (entered listed 0 []) d.body s = cc in
        let b = alone d.body in
        let i = ih s refl in
        ((cycles_of n b, cycles_of n s, ap (cycles_of n) q ∙ cycles_listed n d.body s, rows_are_cycles n b, refl, i.0), ap suc i.1)

    by : (o : Option Decl)
        → ◌≡◌ {A = Answer Body} (elim o [
          | none ↦ refused not_defined t.at
          | some d ↦ answering (run_of ps l) λ r. given (inner (entered listed 0 []) d.body r)
        ]) (given r)
        → ((s : Body) → run_of ps l ≡ given s → Shares mark n l (listed_in mark n ps l) s)
        → Shares mark n (t ∷ l) (elim o [ none ↦ [] | some d ↦ rows_of mark n t.word d.body ∷ listed_in mark n ps l ]) r
    by none e ih = never e
    by (some d) e ih = on d (run_of ps l) e ih

-- ---- and so of every accepted text

pub length_firsts : {A : Type 0} (l : List (Tok × A)) → length (firsts l) ≡ length l
unfolding firsts
length_firsts [] = refl
length_firsts (x ∷ l) = ap suc (length_firsts l)

-- the listed patterns l against the meaning m, with one mark: as many are listed, their cycles are the run's, their rows are all rows; and each
-- one's rows are those of a window at its first cycle, as long as it is
pub record Together (mark : ℕ) (l : List ListedRows) (m : Meaning) : Type 0 where
  pub as_many : length l ≡ m.listed
  pub as_cycles : joined_cycles l ≡ cycles 0 m.run
  pub as_rows : joined_rows l ≡ rows mark (cycles_of (length m.signals) m.run)
  pub as_windows : (before : List ListedRows) (x : ListedRows) (after : List ListedRows) → l ≡ before ++ x ∷ after
      → window_rows m (joined_cycles before) x.cycles mark ≡ x.rows

-- THE LAW
pub listed_together : (mark : ℕ) (text : List ℕ) (m : Meaning) → meaning text ≡ given m → Together mark (listed_patterns mark text) m
unfolding listed_patterns listed_of
listed_together mark text m e =
    let a = accepted text m e in
    let n = length m.signals in
    let w : length a.doc.signals ≡ n = sym (length_firsts a.doc.signals) ∙ ap length a.signals in
    let k : listed_in mark n a.doc.patterns a.doc.listed ≡ listed_patterns mark text =
    ap (λ (k : ℕ). listed_in mark k a.doc.patterns a.doc.listed) (sym w) ∙ ap (listed_of mark) (sym a.read) in
    let h = shares mark n a.doc.patterns a.doc.listed m.run a.run in
    let p : Plays mark (listed_patterns mark text) (cycles_of n m.run) = subst (λ (l : List ListedRows). Plays mark l (cycles_of n m.run)) k h.0 in
    record {
      as_many = ap length (sym k) ∙ h.1 ∙ a.listed;
      as_cycles = plays_cycles mark _ _ p ∙ rows_are_cycles n m.run;
      as_rows = plays_rows mark _ _ p;
      as_windows = λ before x after q.
          window_rows_lem m mark (joined_cycles before) x.cycles ∙ plays_one mark before x after _ (subst (λ (l : List ListedRows). Plays mark l (cycles_of n m.run)) q p);
    }
