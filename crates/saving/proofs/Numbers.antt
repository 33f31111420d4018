-- THE NUMBERS: no reader of a text refuses with more than 14, so that 15 and above come from the run alone.
use Prim.Native.Nat.{ℕ, zero, suc, ◌≤◌}
use Prim.Native.String.{String}
use native.Mathlib.Omega.{arith}
use mathlib.Core.Path.{◌≡◌, refl, ap}
use mathlib.Core.Bool.{Bool, true, false, ◌&&◌}
use mathlib.Core.Logic.{inl, inr}
use mathlib.Core.Option.{Option, none, some}
use mathlib.Core.List.{List, [], ◌∷◌}
use lib.Dec.{leb, ltb, eqb}
use lib.ListN.{length, drop}
use borrow.Author.Tests.{leb-true}
use Rattle.tokens.specs.Written.{bytes, same}
use Rattle.tokens.specs.Refusals.{text_most, too_long, not_here}
use Rattle.tokens.specs.Tokens.{Tok, Toks, stop, tok, plain, toks, left, fault_in, fault_of}
use Rattle.tokens.proofs.Stream.{Closes, closes}
use Rattle.meaning.specs.Refusals.{used_name}
use Rattle.meaning.specs.Bounds.{depth_most, entry_most, brackets_most}
use Rattle.meaning.specs.Reader.{Res, Reader, ok, refuse, after, ◌>>=◌, give, refuse_if, any, ahead, due_of, one_of, choose, is_word, word, if_ahead, option, while_f, while, closed, until}
use Rattle.meaning.specs.Names.{name, due_among, new_name, known, old_name, within, number_in}
use Rattle.meaning.specs.Labels.{used_twice, earlier, each_once}
use Rattle.meaning.specs.Signals.{Names, signal, signals, signal_up_to, signals_up_to}
use Rattle.meaning.specs.Groups.{term, sign, joined, more, terms, bracket, expression, group, groups, group_up_to, groups_up_to}
use Rattle.meaning.specs.Timing.{Wave, Tables, quoted, Signed, time_of, signed_quoted, letter_due, alternative, letters, Events, one_event, event, entry, waveforms, table, timing}
use Rattle.meaning.specs.Body.{Assigns, Args, Kind, Body}
use Rattle.meaning.specs.Data.{chars_of, times, repeated, piece, part, data_read, assign, assigns, argument, arguments}
use Rattle.meaning.specs.Statements.{Decls, Env, Head, ends, vecs, sets, loops, shifts, uses, used, chosen, looping, shift_head, label_head, head, in_shift, behind, statements_f, statements, declared}
use Rattle.meaning.specs.Document.{one_body, one_macro, one_procedure, macro_defs, procedures, bodies, list_entry, burst, exec, pattern, patterns, document, document_up_to}
use Rattle.meaning.proofs.Choices.{◌also◌}

-- the tokens stop with at most 14
abbrev Stopping : Toks → Type 0
Stopping (stop n p) = n ≤ 14
Stopping (tok t ts) = Stopping ts

abbrev Out : {A : Type 0} → Res A → Type 0
Out (ok a us) = Stopping us
Out (refuse n p) = n ≤ 14

record Low {A : Type 0} (m : Reader A) : Type 0 where
  pub low : (ts : Toks) → Stopping ts → Out (m ts)

-- ---- the pieces

low_refuse : {A : Type 0} (n p : ℕ) → leb n 14 ≡ true → Low {A = A} (λ ts. refuse n p)
low_refuse n p e = record { low = λ ts h. leb-true n 14 e }

low_any : Low any
unfolding any
low_any = record { low = by }
  where
    by : (ts : Toks) → Stopping ts → Out (any ts)
    by (stop n p) h = h
    by (tok t ts) h = h

low_give : {A : Type 0} (a : A) → Low (give a)
unfolding give
low_give a = record { low = λ ts h. h }

low_if : (c : Bool) (n p : ℕ) → leb n 14 ≡ true → Low (refuse_if c n p)
unfolding refuse_if
low_if true n p e = record { low = λ ts h. leb-true n 14 e }
low_if false n p e = record { low = λ ts h. h }

low_known : {A : Type 0} (o : Option A) (n p : ℕ) → leb n 14 ≡ true → Low (known o n p)
unfolding known
low_known none n p e = record { low = λ ts h. leb-true n 14 e }
low_known (some a) n p e = record { low = λ ts h. h }

low_bind : {A B : Type 0} (m : Reader A) (k : A → Reader B) → Low m → ((a : A) → Low (k a)) → Low (m >>= k)
unfolding ◌>>=◌ after
low_bind {A} m k h g = record { low = λ ts s. by (m ts) (h.low ts s) }
  where
    by : (r : Res A) → Out r → Out (after r k)
    by (ok a us) o = (g a).low us o
    by (refuse n p) o = o

low_either : {A : Type 0} (c : Bool) (m k : Reader A) → Low m → Low k → Low {A = A} (λ ts. elim c [ true ↦ m ts | false ↦ k ts ])
low_either true m k f g = f
low_either false m k f g = g

low_within : (a b : ℕ) (o : Option ℕ) (p : ℕ) → Low (within a b o p)
unfolding within give
low_within a b none p = low_refuse _ p refl
low_within a b (some n) p = low_either (leb a n && leb n b) _ _ (low_give n) (low_refuse _ p refl)

ruleset basic = (low_any, low_give, low_if, low_known, low_within, low_bind)

low_due : (w : List ℕ) → Low (due_of w)
unfolding due_of
low_due w = search basic

low_among : (ks : List String) → Low (due_among ks)
unfolding due_among
low_among ks = search basic

low_word : Low word
unfolding word
low_word = search basic

low_name : Low name
unfolding name
low_name = search (basic, low_word)

low_new : {A : Type 0} (used : List (Tok × A)) → Low (new_name used)
unfolding new_name
low_new used = search (basic, low_name)

low_old : {A : Type 0} (used : List (Tok × A)) → Low (old_name used)
unfolding old_name
low_old used = search (basic, low_name)

low_number : (a b : ℕ) → Low (number_in a b)
unfolding number_in
low_number a b = search (basic, low_word)

ruleset lowly = (basic, low_due, low_among, low_word, low_name, low_new, low_old, low_number)

-- ---- choices and loops

abbrev EachLow : {A : Type 0} → List (String × (ℕ → Reader A)) → Type 0
EachLow [] = Unit {0}
EachLow (x ∷ xs) = ((p : ℕ) → Low (x.1 p)) × EachLow xs

low_one_of : {A : Type 0} (xs : List (String × (ℕ → Reader A))) → EachLow xs → (t : Tok) → Low (one_of xs t)
unfolding one_of
low_one_of [] h t = low_refuse _ _ refl
low_one_of (x ∷ xs) h t = low_either (same t.word (bytes x.0)) (x.1 t.at) (one_of xs t) (h.0 t.at) (low_one_of xs h.1 t)

low_choose : {A : Type 0} (xs : List (String × (ℕ → Reader A))) → EachLow xs → Low (choose xs)
unfolding choose
low_choose xs h = low_bind _ _ low_any (low_one_of xs h)

low_ahead : {A : Type 0} (w : String) (m k : Reader A) → Low m → Low k → Low (if_ahead w m k)
unfolding if_ahead
low_ahead w m k f g = record { low = λ ts. (low_either (ahead w ts) m k f g).low ts }

low_option : {S : Type 0} (w : String) (part : S → Reader S) → ((s : S) → Low (part s)) → (s : S) → Low (option w part s)
unfolding option
low_option w part h s = low_ahead w _ _ (h s) (low_give s)

module _ {S : Type 0} (step : S → Reader S) (h : (s : S) → Low (step s)) where
  low_while_f : (test : Toks → Bool) (k : ℕ) (s : S) → Low (while_f test step k s)
  unfolding while_f give
  low_while_f test zero s = low_give s
  low_while_f test (suc k) s = record { low = λ ts. (low_either (test ts) _ _ (low_bind _ _ (h s) (low_while_f test k)) (low_give s)).low ts }

  low_while : (test : Toks → Bool) (s : S) → Low (while test step s)
  unfolding while
  low_while test s = record { low = λ ts. (low_while_f test (suc (left ts)) s).low ts }

  low_closed : (w : String) (s : S) → Low (closed w step s)
  unfolding closed
  low_closed w s = low_bind _ _ (low_while _ s) λ x. low_bind _ _ (low_due _) λ p. low_give _

  low_until : (w : String) (s : S) → Low (until w step s)
  unfolding until
  low_until w s = low_bind _ _ (low_closed w s) λ x. low_give _

-- ---- signals, groups, timing

low_signal : (ns : Names) → Low (signal ns)
unfolding signal_up_to
low_signal ns = search lowly depth 9

low_signals : Low signals
unfolding signals_up_to
low_signals = search (lowly, low_signal, low_until) depth 9

module _ (inner : ℕ → Reader (List ℕ)) (h : (p : ℕ) → Low (inner p)) (ns : Names) where
  low_term : Low (term inner ns)
  unfolding term
  low_term = low_ahead _ _ _ (search lowly depth 9) (search lowly)

  low_joined : (plus : Bool) (g x : List ℕ) (q : ℕ) → Low (joined plus g x q)
  unfolding joined
  low_joined true g x q = search lowly
  low_joined false g x q = search lowly

  low_sign : Low sign
  unfolding sign
  low_sign = low_choose _ ((λ p. low_give _) also (λ p. low_give _) also tt)

  low_more : (g : List ℕ) → Low (more inner ns g)
  unfolding more
  low_more g = search (lowly, low_sign, low_term, low_joined)

  low_terms : Low (terms inner ns)
  unfolding terms
  low_terms = low_bind _ _ low_term λ x. low_while (more inner ns) (λ g. (low_more g)) _ _

low_bracket : (d : ℕ) (ns : Names) (p : ℕ) → Low (bracket d ns p)
unfolding bracket
low_bracket zero ns p = low_refuse _ p refl
low_bracket (suc d) ns p = low_terms (bracket d ns) (low_bracket d ns) ns

low_expression : (ns : Names) → Low (expression ns)
unfolding expression
low_expression ns = low_terms _ (low_bracket brackets_most ns) ns

low_group : (n : ℕ) (ns : Names) → Low (group n ns)
unfolding group_up_to
low_group n ns = search (lowly, low_expression) depth 14

low_groups : (ns : Names) → Low (groups ns)
unfolding groups_up_to
low_groups ns = search (lowly, low_group, low_until) depth 9

low_quoted : (a : ℕ) → Low (quoted a)
unfolding quoted
low_quoted a = search lowly depth 9

low_time : (sign : ℕ → Signed) → Low (time_of sign)
unfolding time_of
low_time sign = search lowly

low_signed : Low signed_quoted
unfolding signed_quoted
low_signed = search (lowly, low_ahead, low_time) depth 9

low_letter : Low letter_due
unfolding letter_due
low_letter = search lowly

low_alternative : (es : List ℕ) → Low (alternative es)
unfolding alternative
low_alternative es = search (lowly, low_letter)

low_letters : Low letters
unfolding letters
low_letters = low_bind _ _ low_letter λ e. low_while alternative (λ es. (low_alternative es)) _ _

low_one_event : (n : ℕ) (s : Events) → Low (one_event n s)
unfolding one_event
low_one_event n s = search (lowly, low_signed, low_letters) depth 10

low_event : (n : ℕ) (s : Events) → Low (event n s)
unfolding event
low_event n s =
    record { low = λ ts. (low_either (ahead "'" ts && leb entry_most s.1) _ _ (low_bind _ _ (low_due _) λ p. (low_refuse _ p refl)) (low_one_event n s)).low ts }

low_entry : (sigs : List ℕ) (ws : List Wave) → Low (entry sigs ws)
unfolding entry
low_entry sigs ws = search (lowly, low_event, low_until) depth 14

low_waveforms : (ns : Names) (ws : List Wave) → Low (waveforms ns ws)
unfolding waveforms
low_waveforms ns ws = search (lowly, low_entry, low_until) depth 9

low_table : (ns : Names) (tabs : Tables) → Low (table ns tabs)
unfolding table
low_table ns tabs = search (lowly, low_quoted, low_waveforms, low_until) depth 20 fits 9000

low_timing : (ns : Names) → Low (timing ns)
unfolding timing
low_timing ns = search (lowly, low_table, low_until) depth 9

-- ---- DATA, assignments, arguments

low_chars : (t : Tok) → Low (chars_of t)
unfolding chars_of
low_chars t = search lowly

low_times : (t : Tok) (o : Option (List ℕ)) → Low (times t o)
unfolding times
low_times t none = (low_refuse _ _ refl)
low_times t (some s) = low_within _ _ _ _

low_repeated : Low repeated
unfolding repeated
low_repeated = search (lowly, low_times, low_chars) depth 9

low_piece : (m : Bool) (t : Tok) → Low (piece m t)
unfolding piece
low_piece m t = low_either (is_word t.word) _ _ (low_chars t) (low_one_of _ ((λ p. search lowly) also (λ p. low_repeated) also tt) t)

low_part : (m : Bool) (cs : List ℕ) → Low (part m cs)
unfolding part
low_part m cs = search (lowly, low_piece)

low_data : (m : Bool) → Low (data_read m)
unfolding data_read
low_data m = low_closed (part m) (λ cs. (low_part m cs)) ";" []

low_assign : (ns : Names) (m : Bool) (xs : Assigns) → Low (assign ns m xs)
unfolding assign
low_assign ns m xs = search (lowly, low_data) depth 12

low_assigns : (ns : Names) (m : Bool) → Low (assigns ns m)
unfolding assigns
low_assigns ns m = search (lowly, low_assign, low_until)

low_argument : (ns : Names) (b : Body) (xs : Args) → Low (argument ns b xs)
unfolding argument
low_argument ns b xs = search (lowly, low_data) depth 14

low_arguments : (ns : Names) (b : Body) → Low (arguments ns b)
unfolding arguments
low_arguments ns b = low_choose _ ((λ p. low_give _) also (λ p. (low_closed (argument ns b) (λ xs. (low_argument ns b xs)) "}" [])) also tt)

-- ---- statements

low_used : (k : Kind) (d : ℕ) (ns : Names) (l : Decls) → Low (used k d ns l)
unfolding used
low_used k d ns l = search (lowly, low_arguments) depth 10

low_head : (e : Env) (own : Bool) (d : ℕ) (seen : Bool) → Low (head e own d seen)
unfolding head chosen looping shift_head label_head
low_head e own d seen = low_choose _ (
    (λ p. search (lowly, low_assigns))
    also (λ p. search (lowly, low_assigns))
    also (λ p. search lowly)
    also (λ p. search lowly depth 8)
    also (λ p. (low_used _ d _ _))
    also (λ p. (low_used _ d _ _))
    also (λ p. search lowly depth 8)
    also (λ p. search lowly depth 8)
    also (λ p. low_give _)
    also tt)

low_in_shift : (ns : Names) → Low (in_shift ns)
unfolding in_shift
low_in_shift ns = search (lowly, low_assigns) depth 10

module _ (within : Reader Body) (h : Low within) where
  low_behind : (ns : Names) (on : Bool → Reader Body) → ((s : Bool) → Low (on s)) → (seen : Bool) (x : Head) → Low (behind ns within on seen x)
  unfolding behind
  low_behind ns on k seen ends = low_give _
  low_behind ns on k seen (vecs p a) = search lowly
  low_behind ns on k seen (sets x) = search lowly
  low_behind ns on k seen (loops n) = search lowly
  low_behind ns on k seen shifts = search (lowly, low_in_shift)
  low_behind ns on k seen (uses j x t a) = search lowly

  low_statements_f : (e : Env) (own : Bool) (d k : ℕ) (seen : Bool) → Low (statements_f e own d within k seen)
  unfolding statements_f
  low_statements_f e own d zero seen = low_refuse _ _ refl
  low_statements_f e own d (suc k) seen = low_bind _ _ (low_head e own d seen) (low_behind e.names (statements_f e own d within k) (λ s. (low_statements_f e own d k s)) seen)

low_statements : (e : Env) (d : ℕ) (own : Bool) → Low (statements e d own)
unfolding statements
low_statements e zero own = record { low = λ ts. (low_statements_f _ ((low_refuse _ 0 refl)) e own zero (suc (left ts)) false).low ts }
low_statements e (suc d) own = record { low = λ ts. (low_statements_f _ ((low_statements e d false)) e own (suc d) (suc (left ts)) false).low ts }

-- ---- the document

low_declared : (e : Env) (own : Bool) → Low (declared e own)
unfolding declared
low_declared e own = record { low = λ ts. (low_bind _ _ (low_statements e depth_most own) (λ b. low_give _)).low ts }

low_body : (e : Env) (n : ℕ) (l : Decls) → Low (one_body e n l)
unfolding one_body
low_body e n l = search (lowly, low_declared) depth 9

low_macro : (e : Env) → Low (one_macro e)
unfolding one_macro
low_macro e = search (lowly, low_body)

low_procedure : (e : Env) → Low (one_procedure e)
unfolding one_procedure
low_procedure e = search (lowly, low_body)

low_listed : (l : List Tok) → Low (list_entry l)
unfolding list_entry
low_listed l = search lowly depth 8

low_burst : Low burst
unfolding burst
low_burst = search (lowly, low_listed, low_until) depth 14

low_exec : (b : Tok) → Low (exec b)
unfolding exec
low_exec b = search lowly depth 14

low_pattern : (e : Env) (b : Tok) (ps : Decls) → Low (pattern e b ps)
unfolding pattern
low_pattern e b ps = search (lowly, low_declared) depth 12

low_macros : (e : Env) → Low (macro_defs e)
unfolding macro_defs
low_macros e = search (lowly, low_macro, low_until) depth 9

low_procedures : (e : Env) → Low (procedures e)
unfolding procedures
low_procedures e = search (lowly, low_procedure, low_until) depth 9

low_bodies : (e : Env) → Low (bodies e)
unfolding bodies
low_bodies e = record {
  low = λ ts. (low_either (ahead "MacroDefs" ts) _ _ (low_bind _ _ (low_macros e) (low_option "Procedures" procedures low_procedures))
      (low_bind _ _ (low_option "Procedures" procedures low_procedures e) (low_option "MacroDefs" macro_defs low_macros))).low ts;
}

low_patterns : (e : Env) (b : Tok) → Low (patterns e b)
unfolding patterns
low_patterns e b = low_bind _ _ (low_pattern e b []) (low_while (pattern e b) (low_pattern e b) _)

-- a name that is used already is 7
low_once : {A : Type 0} (burst : List ℕ) (m : Reader A) → Low m → Low (each_once burst m)
unfolding each_once earlier
low_once {A} burst m h = record { low = λ ts s. by (used_twice burst ts) (m ts) (h.low ts s) }
  where
    by : (o : Option ℕ) (r : Res A) → Out r → Out (earlier o r)
    by none r i = i
    by (some q) (ok a us) i = omega arith
    by (some q) (refuse n p) i = either (ltb q p)
      where
        either : (c : Bool) → Out {A = A} (elim c [ true ↦ refuse used_name q | false ↦ refuse n p ])
        either true = omega arith
        either false = i

low_document : Low document
unfolding document_up_to
low_document =
    low_bind _ _ (low_due _) λ a. low_bind _ _ (low_due _) λ b. low_bind _ _ (low_due _) λ c.
    low_bind _ _ low_signals λ ss. low_bind _ _ (low_option "SignalGroups" groups low_groups ss) λ ns. low_bind _ _ (low_timing ns) λ tabs.
    low_bind _ _ (low_bodies _) λ e. low_bind _ _ low_burst λ l. low_bind _ _ (low_exec _) λ q. low_bind _ _ (low_once _ _ (low_patterns _ _)) λ ps. low_give _

-- ---- of a text

stopping : (e : ℕ) (ts : Toks) → Closes e ts → Stopping ts
stopping e (tok t ts) c = stopping e ts c
stopping e (stop n p) (inl h) = omega (arith, h.0)
stopping e (stop n p) (inr (inl h)) = omega (arith, h)
stopping e (stop n p) (inr (inr h)) = omega (arith, h)

text_stops : (text : List ℕ) → Stopping (toks text 0)
unfolding toks
text_stops text = stopping _ (toks text 0) (closes plain 0 (drop 0 text))

-- THE LAWS
pub document_low : (text : List ℕ) (n p : ℕ) → document (toks text 0) ≡ refuse n p → n ≤ 14
document_low text n p e = by (document (toks text 0)) e (low_document.low (toks text 0) (text_stops text))
  where
    by : {A : Type 0} (r : Res A) → r ≡ refuse n p → Out r → n ≤ 14
    by (ok a us) e o = let z : ◌≡◌ {A = ℕ} 0 1 = cc in absurd (omega arith)
    by (refuse m q) e o = let k : m ≡ n = cc in omega arith

abbrev number_of : Option (ℕ × ℕ) → ℕ
number_of none = 0
number_of (some f) = f.0

fault_in_low : (ts : Toks) (f : ℕ × ℕ) → Stopping ts → fault_in ts ≡ some f → f.0 ≤ 14
unfolding fault_in
fault_in_low (tok t ts) f h e = fault_in_low ts f h e
fault_in_low (stop n p) f h e = by (eqb n not_here) e
  where
    by : (b : Bool) → ◌≡◌ {A = Option (ℕ × ℕ)} (elim b [ true ↦ none | false ↦ some (n, p) ]) (some f) → f.0 ≤ 14
    by true e = let z : ◌≡◌ {A = ℕ} 0 1 = cc in absurd (omega arith)
    by false e = let k : n ≡ f.0 = ap number_of e in omega arith

pub fault_low : (text : List ℕ) (f : ℕ × ℕ) → fault_of text ≡ some f → f.0 ≤ 14
unfolding fault_of
fault_low text f e = by (leb (length text) text_most) e
  where
    by : (b : Bool) → ◌≡◌ {A = Option (ℕ × ℕ)} (elim b [ true ↦ fault_in (toks text 0) | false ↦ some (too_long, 0) ]) (some f) → f.0 ≤ 14
    by true e = fault_in_low (toks text 0) f (text_stops text) e
    by false e = let k : 1 ≡ f.0 = ap number_of e in omega arith
