-- THE LISTED NAME: where a text is refused with 15, the place is that of a name in the list, and its `;` stands right behind it.
use Prim.Native.Nat.{ℕ, ◌+◌}
use native.Mathlib.Omega.{arith}
use mathlib.Core.Path.{◌≡◌, refl, sym, ap, ◌∙◌, subst}
use mathlib.Core.Bool.{Bool, true, false}
use mathlib.Core.Option.{Option, none, some}
use mathlib.Core.List.{List, [], ◌∷◌, ◌++◌}
use lib.ListN.{length}
use Rattle.tokens.specs.Written.{bytes, same}
use Rattle.tokens.specs.Tokens.{Tok, Toks, tok, toks, fault_of}
use Rattle.meaning.specs.Refusals.{not_defined, too_large, not_playable, across_edge}
use Rattle.meaning.specs.Reader.{Res, ok, refuse}
use Rattle.meaning.specs.Names.{find}
use Rattle.meaning.specs.Groups.{groups}
use Rattle.meaning.specs.Body.{listed, entered, Body, inner}
use Rattle.meaning.specs.Statements.{Decl, Decls}
use Rattle.meaning.specs.Document.{list_entry, burst, Read, document}
use Rattle.meaning.specs.Run.{cycles_of}
use Rattle.meaning.specs.Edges.{first_in_run}
use Rattle.meaning.specs.Meaning.{Answer, given, refused, answering, run_of, first_failing, Meaning, fitting, ordered, meaning_of, judged, accept, meaning}
use Rattle.meaning.proofs.SameTokens.{Stands, stands_on, stands_there}
use Rattle.held.proofs.Rest.{Rest, all, behind, rest_rest, moves_leaves, moves_due, leaves_option}
use Rattle.held.proofs.Grammar.{moves_signals, moves_groups, moves_timing, moves_macro, moves_procedure, opening_moves}
use Rattle.held.proofs.Bodies.{leads_bodies}
use Rattle.held.proofs.Leads.{Leads, leads_bind, leads_give, leads_if, leads_until}
use Rattle.held.proofs.Due.{name_is, due_is}
use Rattle.held.proofs.Parts.{Parts, parts}
use Rattle.saving.specs.Saving.{semicolon, up_to, entry}
use Rattle.saving.proofs.Numbers.{document_low, fault_low}

-- a name with its `;` behind it
abbrev ending : Tok → ℕ → Toks → Toks
ending t q us = tok t (tok (record { at = q; word = bytes ";" }) us)

-- it stands among the tokens ts
record Entry (ts : Toks) (t : Tok) : Type 0 where
  pub end : ℕ
  pub more : Toks
  pub stands : Rest (ending t end more) ts

unfoldable Entries : Toks → List Tok → Type 0
Entries ts [] = Unit {0}
Entries ts (t ∷ l) = Entry ts t × Entries ts l

entries_more : (ts : Toks) (l : List Tok) (t : Tok) → Entries ts l → Entry ts t → Entries ts (l ++ t ∷ [])
unfolding Entries
entries_more ts [] t e h = (h, tt)
entries_more ts (u ∷ l) t e h = (e.0, entries_more ts l t e.1 h)

entries_rest : (l : List Tok) {us ts : Toks} → Rest us ts → Entries us l → Entries ts l
unfolding Entries
entries_rest [] r e = tt
entries_rest (t ∷ l) r e = (record { end = e.0.end; more = e.0.more; stands = rest_rest e.0.stands r }, entries_rest l r e.1)

-- ---- the list is read

abbrev Reading : Toks → List Tok → Toks → Type 0
Reading ts l us = Entries ts l × Rest us ts

one_entry : (ts : Toks) (l : List Tok) (us : Toks) → Reading ts l us → Leads (list_entry l) us (Reading ts)
unfolding list_entry
one_entry ts l us r =
    leads_bind _ _ λ t vs q. leads_if _ _ _ _ λ c. leads_bind _ _ λ p ws w. leads_give _
    (let n = (name_is us).all t vs q in
    let d = (due_is (bytes ";") vs).all p ws w in
    let s : us ≡ ending t p ws = n ∙ ap (tok t) d in
    let there : Rest (ending t p ws) ts = subst (λ (x : Toks). Rest x ts) s r.1 in
    (entries_more ts l t r.0 (record { end = p; more = ws; stands = there }), rest_rest (behind (behind all)) there))

burst_lists : (ts : Toks) → Leads burst ts (λ x us. Entries ts x.1)
unfolding burst Entries
burst_lists ts =
    leads_bind _ _ λ a as' h. leads_bind _ _ λ t bs i. leads_bind _ _ λ b cs j. leads_bind _ _ λ c ds k. leads_bind _ _ λ d es m.
    leads_bind _ _ λ l fs n. leads_bind _ _ λ e gs o. leads_give _
    (let r0 = (moves_leaves (moves_due _)).rest ts a as' h in
    let r1 = rest_rest (subst (λ (x : Toks). Rest bs x) (sym ((name_is as').all t bs i)) (behind all)) r0 in
    let r2 = rest_rest ((moves_leaves (moves_due _)).rest bs b cs j) r1 in
    let r3 = rest_rest ((moves_leaves (moves_due _)).rest cs c ds k) r2 in
    let r4 = rest_rest ((moves_leaves (moves_due _)).rest ds d es m) r3 in
    entries_rest l r4 ((leads_until (Reading es) list_entry (one_entry es) (λ s us ts q i. (i.0, rest_rest q i.1)) "}" [] es (tt, all)).all l fs n).0)

burst_at_lem : (ts : Toks) (d : Read) (us : Toks) (p : Parts ts d us) → Rest p.burst_at_lem ts
burst_at_lem ts d us p =
    let a : Rest p.signals_at ts = (moves_leaves opening_moves).rest _ _ _ p.opening_read in
    let b = rest_rest ((moves_leaves moves_signals).rest _ _ _ p.signals_read) a in
    let c = rest_rest ((leaves_option "SignalGroups" groups (λ ns. moves_leaves (moves_groups ns)) _).rest _ _ _ p.groups_read) b in
    let f = rest_rest ((moves_leaves (moves_timing _)).rest _ _ _ p.timing_read) c in
    (leads_bodies (λ e vs. Rest vs ts) (λ e us vs r h. rest_rest r h)
    (λ e vs h. record { all = λ a us q. rest_rest ((moves_leaves (moves_macro e)).rest vs a us q) h })
    (λ e vs h. record { all = λ a us q. rest_rest ((moves_leaves (moves_procedure e)).rest vs a us q) h }) _ _ f).all _ _ p.bodies_read

-- ---- and one of its names has no pattern

-- the token that the refusal names
not_found : (ts : Toks) (ps : Decls) (l : List Tok) {n p : ℕ} → Entries ts l → run_of ps l ≡ refused n p → (t : Tok) × Entry ts t × (t.at ≡ p) × (n ≡ not_defined)
unfolding run_of answering Entries
not_found ts ps [] e h = let z : ◌≡◌ {A = ℕ} 0 1 = cc in absurd (omega arith)
not_found ts ps (t ∷ l) {n} {p} e h = by (find ps t.word) h (not_found ts ps l e.1)
  where
    Found : Type 0
    Found = (t : Tok) × Entry ts t × (t.at ≡ p) × (n ≡ not_defined)

    later : {f : Body → Answer Body} → ((b : Body) → (c : Body) × (f b ≡ given c)) → (a : Answer Body) → answering a f ≡ refused n p → a ≡ refused n p
    later g (given b) q = let c = g b in let z : ◌≡◌ {A = ℕ} 0 1 = cc in absurd (omega arith)
    later g (refused m r) q = q

    by : (o : Option Decl) → ◌≡◌ {A = Answer Body} (elim o [ none ↦ refused not_defined t.at | some d ↦ answering (run_of ps l) λ r. given (inner (entered listed 0 []) d.body r) ]) (refused n p)
        → (run_of ps l ≡ refused n p → Found) → Found
    by none q ih = (t, e.0, cc, cc)
    by (some d) q ih = ih (later (λ b. (inner (entered listed 0 []) d.body b, refl)) (run_of ps l) q)

stands_rest : {text : List ℕ} {us ts : Toks} → Rest us ts → Stands text ts → Stands text us
stands_rest all h = h
stands_rest {text} (behind {t} {us} {ts} r) h = stands_rest r (stands_on text t ts h)

-- THE LAW
pub record ListedAt (text : List ℕ) (p : ℕ) : Type 0 where
  pub listed : Tok
  pub end : ℕ
  pub more : Toks
  pub stands : toks text p ≡ tok listed (tok (record { at = end; word = bytes ";" }) more)
  pub place : listed.at ≡ p
  pub overwritten : entry (toks text p) ≡ some (record { first = p; behind = end + 1 })

pub listed_at : (text : List ℕ) (d : Read) (us : Toks) {n p : ℕ} → document (toks text 0) ≡ ok d us → run_of d.patterns d.listed ≡ refused n p → ListedAt text p
unfolding entry up_to semicolon same bytes
listed_at text d us {n} {p} e h =
    let q = (parts (toks text 0)).all d us e in
    let l = entries_rest d.listed (burst_at_lem _ _ _ q) ((burst_lists q.burst_at_lem).all _ _ q.burst_read) in
    let f = not_found (toks text 0) d.patterns d.listed l h in
    let t = f.0 in
    let s = stands_there text t _ (stands_rest f.1.stands (record { at = 0; is = refl })) in
    let there : toks text p ≡ ending t f.1.end f.1.more = ap (toks text) (sym f.2) ∙ s in
    record {
      listed = t;
      end = f.1.end;
      more = f.1.more;
      stands = there;
      place = f.2;
      overwritten = rw there (ap (λ (x : ℕ). some (record { first = x; behind = f.1.end + 1 })) f.2);
    }

-- ---- whatever the text: only the run refuses with 15

pub listed_place : (text : List ℕ) (p : ℕ) → meaning text ≡ refused not_defined p → ListedAt text p
unfolding meaning accept answering judged ordered
listed_place text p e = by (fault_of text) refl e
  where
    paired : {A : Type 0} (o : Option ℕ) (m : Meaning) → ◌≡◌ {A = Answer Meaning} (elim o [ some q ↦ refused across_edge q | none ↦ given m ]) (refused not_defined p) → A
    paired (some q) m e = let z : ◌≡◌ {A = ℕ} 25 15 = cc in absurd (omega arith)
    paired none m e = let z : ◌≡◌ {A = ℕ} 0 1 = cc in absurd (omega arith)

    fitted : {A : Type 0} (x : Bool) (o : Option ℕ) (m : Meaning) → ◌≡◌ {A = Answer Meaning} (elim x [ false ↦ refused too_large 0 | true ↦ elim o [ some q ↦ refused not_playable q | none ↦ ordered m ] ]) (refused not_defined p) → A
    fitted false o m e = let z : ◌≡◌ {A = ℕ} 16 15 = cc in absurd (omega arith)
    fitted true (some q) m e = let z : ◌≡◌ {A = ℕ} 17 15 = cc in absurd (omega arith)
    fitted true none m e = paired (first_in_run m.tables (length m.signals) m.run) m e

    ran : (d : Read) (us : Toks) → document (toks text 0) ≡ ok d us → (a : Answer Body) → run_of d.patterns d.listed ≡ a → answering a (judged d) ≡ refused not_defined p → ListedAt text p
    ran d us q (given r) f e = fitted (fitting r) (first_failing d.tables (cycles_of (length d.signals) r)) (meaning_of d r) e
    ran d us q (refused n s) f e = let k : s ≡ p = cc in subst (ListedAt text) k (listed_at text d us q f)

    read : (r : Res Read) → document (toks text 0) ≡ r → accept r ≡ refused not_defined p → ListedAt text p
    read (ok d us) q e = ran d us q (run_of d.patterns d.listed) refl e
    read (refuse n s) q e = let k : n ≡ 15 = cc in absurd (omega (arith, document_low text n s q))

    by : (o : Option (ℕ × ℕ)) → fault_of text ≡ o → ◌≡◌ {A = Answer Meaning} (elim o [ some f ↦ refused f.0 f.1 | none ↦ accept (document (toks text 0)) ]) (refused not_defined p) → ListedAt text p
    by (some f) q e = let k : f.0 ≡ 15 = cc in absurd (omega (arith, fault_low text f q))
    by none q e = read (document (toks text 0)) refl e
