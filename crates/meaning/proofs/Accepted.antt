-- Every accepted text: it was read, its listed patterns are its run, and so what holds of every body that is read holds of the run.
use mathlib.Core.Path.{◌≡◌, refl, ap, ◌∙◌, subst}
use Prim.Native.Nat.{ℕ, suc, ◌*◌, ◌≤◌}
use native.Mathlib.Nat.{le_trans, mul-le-mul_left, mul_comm}
use native.Mathlib.Omega.{arith}
use mathlib.Core.Bool.{Bool, true, false}
use mathlib.Core.Option.{Option, none, some}
use mathlib.Core.List.{List}
use lib.ListN.{length}
use Rattle.tokens.specs.Tokens.{Toks, toks, fault_of}
use Rattle.meaning.specs.Refusals.{too_large, not_playable, across_edge}
use Rattle.meaning.specs.Bounds.{depth_most}
use Rattle.meaning.specs.Reader.{Res, ok, refuse}
use Rattle.meaning.specs.Body.{Body, depth}
use Rattle.meaning.specs.Document.{Read, document}
use Rattle.meaning.specs.Run.{size, visits, cycles_of}
use Rattle.meaning.specs.Edges.{first_in_run}
use Rattle.meaning.specs.Meaning.{Answer, given, refused, answering, run_of, first_failing, Meaning, firsts, fitting, ordered, meaning_of, judged, accept, meaning}
use Rattle.meaning.proofs.Everywhere.{runs}
use Rattle.meaning.proofs.Depth.{patterns_within, run_within}
use Rattle.meaning.proofs.Visits.{visits_by_depth}

-- ---- what acceptance tells

pub record Accepted (text : List ℕ) (m : Meaning) : Type 0 where
  pub clean : fault_of text ≡ none
  pub doc : Read
  pub rest : Toks
  pub read : document (toks text 0) ≡ ok doc rest
  pub run : run_of doc.patterns doc.listed ≡ given m.run
  pub fits : fitting m.run ≡ true
  pub plays : first_failing doc.tables (cycles_of (length doc.signals) m.run) ≡ none
  pub pairs : first_in_run m.tables (length m.signals) m.run ≡ none
  pub signals : firsts doc.signals ≡ m.signals
  pub tables : doc.tables ≡ m.tables
  pub listed : length doc.listed ≡ m.listed

-- a refusal is no meaning
pub never : {A : Type 0} {B : Type 0} {n p : ℕ} {a : A} → ◌≡◌ {A = Answer A} (refused n p) (given a) → B
never e = let z : ◌≡◌ {A = ℕ} 0 1 = cc in absurd (omega arith)

module _ (text : List ℕ) (m : Meaning) (clean : fault_of text ≡ none) (d : Read) (ts : Toks) (read : document (toks text 0) ≡ ok d ts) where
  paired : (r : Body) → run_of d.patterns d.listed ≡ given r → fitting r ≡ true → first_failing d.tables (cycles_of (length d.signals) r) ≡ none
      → (x : Option ℕ) → first_in_run d.tables (length (firsts d.signals)) r ≡ x
      → ◌≡◌ {A = Answer Meaning} (elim x [ some p ↦ refused across_edge p | none ↦ given (meaning_of d r) ]) (given m) → Accepted text m
  paired r k f h (some p) x e = never e
  paired r k f h none x e =
      let q : meaning_of d r ≡ m = cc in
      let s : r ≡ m.run = ap (λ (m : Meaning). m.run) q in
      record {
        clean = clean;
        doc = d;
        rest = ts;
        read = read;
        run = k ∙ ap given s;
        fits = subst (λ (r : Body). fitting r ≡ true) s f;
        plays = subst (λ (r : Body). first_failing d.tables (cycles_of (length d.signals) r) ≡ none) s h;
        pairs = subst (λ (m : Meaning). first_in_run m.tables (length m.signals) m.run ≡ none) q x;
        signals = ap (λ (m : Meaning). m.signals) q;
        tables = ap (λ (m : Meaning). m.tables) q;
        listed = ap (λ (m : Meaning). m.listed) q;
      }

  played : (r : Body) → run_of d.patterns d.listed ≡ given r → fitting r ≡ true → (x : Option ℕ) → first_failing d.tables (cycles_of (length d.signals) r) ≡ x
      → ◌≡◌ {A = Answer Meaning} (elim x [ some p ↦ refused not_playable p | none ↦ ordered (meaning_of d r) ]) (given m) → Accepted text m
  unfolding ordered
  played r k f (some p) x e = never e
  played r k f none x e = paired r k f x (first_in_run d.tables (length (firsts d.signals)) r) refl e

  sized : (r : Body) → run_of d.patterns d.listed ≡ given r → judged d r ≡ given m → Accepted text m
  unfolding judged
  sized r k e = by (fitting r) refl e
    where
      by : (b : Bool) → fitting r ≡ b
          → ◌≡◌ {A = Answer Meaning} (elim b [
            | false ↦ refused too_large 0
            | true ↦ elim (first_failing d.tables (cycles_of (length d.signals) r)) [
              | some p ↦ refused not_playable p
              | none ↦ ordered (meaning_of d r)
            ]
          ]) (given m) → Accepted text m
      by false f e = never e
      by true f e = played r k f (first_failing d.tables (cycles_of (length d.signals) r)) refl e

  resolved : (x : Answer Body) → run_of d.patterns d.listed ≡ x → answering x (judged d) ≡ given m → Accepted text m
  unfolding answering
  resolved (given r) k e = sized r k e
  resolved (refused n p) k e = never e

pub accepted : (text : List ℕ) (m : Meaning) → meaning text ≡ given m → Accepted text m
unfolding meaning accept
accepted text m e = by (fault_of text) refl e
  where
    read : fault_of text ≡ none → (x : Res Read) → document (toks text 0) ≡ x → accept x ≡ given m → Accepted text m
    read f (ok d ts) k e = resolved text m f d ts k (run_of d.patterns d.listed) refl e
    read f (refuse n p) k e = never e

    by : (x : Option (ℕ × ℕ)) → fault_of text ≡ x → ◌≡◌ {A = Answer Meaning} (elim x [ some f ↦ refused f.0 f.1 | none ↦ accept (document (toks text 0)) ]) (given m) → Accepted text m
    by (some f) k e = never e
    by none k e = read k (document (toks text 0)) refl e

-- ---- and so

-- the run of an accepted text is at most nine deep: eight in a pattern, and the pattern
pub run_depth : (text : List ℕ) (m : Meaning) → meaning text ≡ given m → depth m.run ≤ suc depth_most
run_depth text m e =
    let a = accepted text m e in
    run_within (runs _ a.doc.patterns (patterns_within.all _ _ _ a.read) a.doc.listed m.run a.run)

-- ten times the run's size is always enough
pub visits_bounded : (text : List ℕ) (m : Meaning) → meaning text ≡ given m → (n : ℕ) → visits 0 m.run n ≤ 10 * size m.run
visits_bounded text m e n =
    let h : size m.run * suc (depth m.run) ≤ size m.run * 10 = mul-le-mul_left (size m.run) (omega (arith, run_depth text m e)) in
    rw mul_comm (le_trans (visits_by_depth 0 m.run n) h)
