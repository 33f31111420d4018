-- A text that was read to its end: what is left is what its tokens stop with, so that the last cursor tells the fault of its bytes.
use Prim.Native.Nat.{ℕ, zero, suc, ◌≤◌, ◌<◌}
use native.Mathlib.Omega.{arith}
use mathlib.Core.Path.{◌≡◌, refl, sym, ap, ◌∙◌}
use mathlib.Core.Bool.{Bool, true, false}
use mathlib.Core.Option.{Option, none, some}
use mathlib.Core.List.{List, []}
use mathlib.Core.Logic.{⊎_elim}
use lib.ListN.{length}
use lib.Dec.{eqb, leb, ltb}
use borrow.Author.Tests.{eq-eqb, ne_eqb, le-leb, not-false}
use Rattle.tokens.specs.Refusals.{text_most, too_long, not_here}
use Rattle.tokens.specs.Tokens.{Tok, Toks, stop, tok, toks, left, fault_in, fault_of}
use Rattle.tokens.proofs.Laws.{stops, fault_real}
use Rattle.meaning.specs.Reader.{Res, Reader, ok, ◌>>=◌, ahead, while_f, while}
use Rattle.meaning.specs.Groups.{groups}
use Rattle.meaning.specs.Statements.{Env}
use Rattle.meaning.specs.Document.{macro_defs, procedures, bodies, pattern, over, patterns, Read, document, document_up_to}
use Rattle.meaning.specs.Labels.{each_once}
use Rattle.meaning.proofs.Gives.{bind_ok}
use Rattle.meaning.proofs.Once.{once_ok}
use Rattle.meaning.proofs.Takes.{Takes}
use Rattle.held.proofs.Parts.{parts}
use Rattle.held.proofs.Places.{rest_stream}
use Rattle.held.proofs.Rest.{Rest, all, behind, Leaves, moving, moves_leaves, moves_takes, leaves_bind, leaves_either, leaves_give, moves_due, leaves_option, leaves_while, moves_until}
use Rattle.held.proofs.Grammar.{moves_signals, moves_groups, moves_timing, moves_macro, moves_procedure, moves_burst, moves_exec, moves_pattern}
use Rattle.words.specs.Cursor.{stop_no, stream}
use Rattle.words.specs.declared.Cursor.{Cursor}
use Rattle.words.proofs.Flow.{stream_on, stream_stop}

-- ---- all readers leave a rest

leaves_macros : (e : Env) → Leaves (macro_defs e)
unfolding macro_defs
leaves_macros e = search (moving, moves_macro, moves_until) depth 9

leaves_procedures : (e : Env) → Leaves (procedures e)
unfolding procedures
leaves_procedures e = search (moving, moves_procedure, moves_until) depth 9

leaves_bodies : (e : Env) → Leaves (bodies e)
unfolding bodies
leaves_bodies e =
    record {
      rest = λ ts. (leaves_either (ahead "MacroDefs" ts) _ _
          (leaves_bind _ _ (leaves_macros e) (leaves_option "Procedures" procedures leaves_procedures))
          (leaves_bind _ _ (leaves_option "Procedures" procedures leaves_procedures e) (leaves_option "MacroDefs" macro_defs leaves_macros))).rest ts;
    }

leaves_patterns : (e : Env) (b : Tok) → Leaves (patterns e b)
unfolding patterns
leaves_patterns e b =
    leaves_bind _ _ (moves_leaves (moves_pattern e b [])) (leaves_while (pattern e b) (λ ps. moves_leaves (moves_pattern e b ps)) _)

leaves_once : {A : Type 0} (burst : List ℕ) (m : Reader A) → Leaves m → Leaves (each_once burst m)
leaves_once burst m h = record { rest = λ ts a us e. h.rest ts a us (once_ok burst m ts e) }

leaves_document : Leaves document
unfolding document_up_to
leaves_document =
    leaves_bind _ _ (moves_leaves (moves_due _)) λ a.
    leaves_bind _ _ (moves_leaves (moves_due _)) λ b.
    leaves_bind _ _ (moves_leaves (moves_due _)) λ c.
    leaves_bind _ _ (moves_leaves moves_signals) λ ss.
    leaves_bind _ _ (leaves_option "SignalGroups" groups (λ ns. moves_leaves (moves_groups ns)) ss) λ ns.
    leaves_bind _ _ (moves_leaves (moves_timing ns)) λ tabs.
    leaves_bind _ _ (leaves_bodies _) λ e.
    leaves_bind _ _ (moves_leaves moves_burst) λ x.
    leaves_bind _ _ (moves_leaves (moves_exec _)) λ q.
    leaves_bind _ _ (leaves_once _ _ (leaves_patterns _ _)) λ ps.
    leaves_give _

-- ---- and the last one leaves nothing

module _ {S : Type 0} (test : Toks → Bool) (step : S → Reader S) (takes : (s : S) → Takes (step s)) where
  while_f_ends : (k : ℕ) (s : S) (ts : Toks) → left ts < k → (s' : S) (us : Toks) → while_f test step k s ts ≡ ok s' us → test us ≡ false
  unfolding while_f
  while_f_ends zero s ts h s' us e = absurd (omega arith)
  while_f_ends (suc k) s ts h s' us e = by (test ts) refl e (λ x vs l. while_f_ends k x vs (omega arith) s' us)
    where
      by : (b : Bool) → test ts ≡ b → ◌≡◌ {A = Res S} (elim b [ true ↦ (step s >>= λ x. while_f test step k x) ts | false ↦ ok s ts ]) (ok s' us)
          → ((x : S) (vs : Toks) → left vs < left ts → while_f test step k x vs ≡ ok s' us → test us ≡ false) → test us ≡ false
      by true q e ih =
          let i = bind_ok (step s) (λ x. while_f test step k x) ts s' us e in
          ih i.0 i.1 ((takes s).falls ts i.0 i.1 i.2) i.3
      by false q e ih = let z : ts ≡ us = cc in rw (← z) q

  -- where a repeated part ends its test fails
  while_ends : (s : S) (ts : Toks) (s' : S) (us : Toks) → while test step s ts ≡ ok s' us → test us ≡ false
  unfolding while
  while_ends s ts s' us e = while_f_ends (suc (left ts)) s ts (omega arith) s' us e

document_over : (ts : Toks) (d : Read) (us : Toks) → document ts ≡ ok d us → over us ≡ true
unfolding patterns
document_over ts d us e =
    let p = (parts ts).all d us e in
    let i = bind_ok (pattern p.env p.burst_name_lem []) _ p.patterns_at d.patterns us p.patterns_read in
    not-false (over us)
    (while_ends _ (pattern p.env p.burst_name_lem) (λ ps. moves_takes (moves_pattern p.env p.burst_name_lem ps)) i.0 i.1 d.patterns us i.3)

-- ---- the fault of a text

fault_rest : {us ts : Toks} → Rest us ts → fault_in ts ≡ fault_in us
unfolding fault_in
fault_rest all = refl
fault_rest (behind r) = fault_rest r

-- the tokens of a text stop
last : (ts : Toks) → (n : ℕ) × (p : ℕ) × Rest (stop n p) ts
last (stop n p) = (n, p, all)
last (tok t ts) = let x = last ts in (x.0, x.1, behind x.2)

-- it is never 0
pub fault_some : (text : List ℕ) (n p : ℕ) → fault_of text ≡ some (n, p) → n ≡ 0 → ⊥
unfolding fault_of fault_in
fault_some text n p e z = by (leb (length text) text_most) e
  where
    x : (n : ℕ) × (p : ℕ) × Rest (stop n p) (toks text 0)
    x = last (toks text 0)

    there : (b : Bool) → ◌≡◌ {A = Option (ℕ × ℕ)} (elim b [ true ↦ none | false ↦ some (x.0, x.1) ]) (some (n, p)) → x.0 ≡ n
    there true e = let o : ◌≡◌ {A = ℕ} 0 1 = cc in absurd (omega arith)
    there false e = let h : ◌≡◌ {A = ℕ × ℕ} (x.0, x.1) (n, p) = cc in ap (λ (y : ℕ × ℕ). y.0) h

    by : (b : Bool) → ◌≡◌ {A = Option (ℕ × ℕ)} (elim b [ true ↦ fault_in (toks text 0) | false ↦ some (too_long, 0) ]) (some (n, p)) → ⊥
    by false e = let h : ◌≡◌ {A = ℕ × ℕ} (too_long, 0) (n, p) = cc in let o = ap (λ (y : ℕ × ℕ). y.0) h in omega arith
    by true e =
        let s = rest_stream text x.2 (0, refl) in
        let q = there (eqb x.0 not_here) (sym (fault_rest x.2) ∙ e) in
        ⊎_elim (λ w. omega (arith, w.0)) (λ w. (fault_real w).0 (q ∙ z)) (stops text s.0 x.0 x.1 (sym s.1))

-- where reading has come to the text's end, the tokens stop with what the cursor says
module _ (text : List ℕ) (c : Cursor) (d : Read) (read : document (toks text 0) ≡ ok d (stream text c)) where
  stopped : stream text c ≡ stop (stop_no c) c.at
  unfolding over
  stopped = by (ltb c.at c.end) refl
    where
      by : (b : Bool) → ltb c.at c.end ≡ b → stream text c ≡ stop (stop_no c) c.at
      by true e =
          let o = sym (ap over (stream_on text c e)) ∙ document_over (toks text 0) d (stream text c) read in
          let z : ◌≡◌ {A = ℕ} 0 1 = cc in
          absurd (omega arith)
      by false e = stream_stop text c e

  module _ (short : length text ≤ text_most) where
    told : fault_of text ≡ fault_in (stop (stop_no c) c.at)
    unfolding fault_of
    told = rw (le-leb (length text) text_most short, fault_of) (fault_rest (leaves_document.rest (toks text 0) d (stream text c) read) ∙ ap fault_in stopped)

    -- they stop with 4: there is no fault
    pub fault_none : stop_no c ≡ not_here → fault_of text ≡ none
    unfolding fault_in
    fault_none e = told ∙ rw (eq-eqb (stop_no c) not_here e, fault_in)

    pub fault_last : (stop_no c ≡ not_here → ⊥) → fault_of text ≡ some (stop_no c, c.at)
    unfolding fault_in
    fault_last e = told ∙ rw (ne_eqb (stop_no c) not_here e, fault_in)
