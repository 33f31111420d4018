-- Every reader of a text's parts leaves a rest of what it was given, and nearly all take a token.
use Prim.Native.Nat.{ℕ, zero, suc}
use mathlib.Core.Bool.{Bool, true, false, ◌&&◌}
use mathlib.Core.Option.{Option, none, some}
use mathlib.Core.List.{List, []}
use lib.Dec.{leb}
use Rattle.tokens.specs.Tokens.{Tok, left}
use Rattle.meaning.specs.Bounds.{depth_most, entry_most, brackets_most}
use Rattle.meaning.specs.Reader.{Reader, ◌>>=◌, ◌>>◌, due, ahead, is_word}
use Rattle.meaning.specs.Signals.{Names, signal, signals, signals_up_to, signal_up_to}
use Rattle.meaning.specs.Groups.{term, sign, joined, more, terms, bracket, expression, group, groups, groups_up_to, group_up_to}
use Rattle.meaning.specs.Timing.{Wave, Tables, quoted, Signed, time_of, signed_quoted, letter_due, alternative, letters, Events, one_event, event, entry, waveforms, table, timing}
use Rattle.meaning.specs.Body.{Assigns, Args, Kind, Body}
use Rattle.meaning.specs.Data.{chars_of, times, repeated, piece, part, data_read, assign, assigns, argument, arguments}
use Rattle.meaning.specs.Statements.{Decls, Env, Head, ends, vecs, sets, loops, shifts, uses, used, chosen, looping, shift_head, label_head, head, in_shift, behind, statements_f, statements, declared}
use Rattle.meaning.specs.Document.{one_body, one_macro, one_procedure, list_entry, burst, exec, pattern}
use Rattle.meaning.proofs.Choices.{◌also◌}
use Rattle.held.proofs.Rest.{Leaves, Moves, moving, moves_leaves, moves_bind, moves_refuse, moves_either, leaves_give, leaves_either, leaves_within, moves_due, leaves_one_of, moves_choose, moves_ahead, leaves_while, moves_closed, moves_until}

-- ---- signals, groups, timing

pub moves_signal : (ns : Names) → Moves (signal ns)
unfolding signal_up_to
moves_signal ns = search moving depth 9

pub opening_moves : Moves (do due "STIL"; due "1.0"; due ";")
opening_moves = moves_bind _ _ (moves_due _) λ x. search moving

pub moves_signals : Moves signals
unfolding signals_up_to
moves_signals = search (moving, moves_signal, moves_until) depth 9

module _ (inner : ℕ → Reader (List ℕ)) (h : (p : ℕ) → Moves (inner p)) (ns : Names) where
  pub moves_term : Moves (term inner ns)
  unfolding term
  moves_term = moves_ahead _ _ _ (search moving depth 9) (search moving)

  pub leaves_joined : (plus : Bool) (g x : List ℕ) (q : ℕ) → Leaves (joined plus g x q)
  unfolding joined
  leaves_joined true g x q = search moving
  leaves_joined false g x q = search moving

  pub moves_sign : Moves sign
  unfolding sign
  moves_sign = moves_choose _ ((λ p. leaves_give _) also (λ p. leaves_give _) also tt)

  pub moves_more : (g : List ℕ) → Moves (more inner ns g)
  unfolding more
  moves_more g = search (moving, moves_sign, moves_term, leaves_joined)

  pub moves_terms : Moves (terms inner ns)
  unfolding terms
  moves_terms = moves_bind _ _ moves_term λ x. leaves_while (more inner ns) (λ g. moves_leaves (moves_more g)) _ _

pub moves_bracket : (d : ℕ) (ns : Names) (p : ℕ) → Moves (bracket d ns p)
unfolding bracket
moves_bracket zero ns p = moves_refuse _ p
moves_bracket (suc d) ns p = moves_terms (bracket d ns) (moves_bracket d ns) ns

pub moves_expression : (ns : Names) → Moves (expression ns)
unfolding expression
moves_expression ns = moves_terms _ (moves_bracket brackets_most ns) ns

pub moves_group : (n : ℕ) (ns : Names) → Moves (group n ns)
unfolding group_up_to
moves_group n ns = search (moving, moves_expression) depth 14

pub moves_groups : (ns : Names) → Moves (groups ns)
unfolding groups_up_to
moves_groups ns = search (moving, moves_group, moves_until) depth 9

pub moves_quoted : (a : ℕ) → Moves (quoted a)
unfolding quoted
moves_quoted a = search moving depth 9

moves_time : (sign : ℕ → Signed) → Moves (time_of sign)
unfolding time_of
moves_time sign = search moving

pub moves_signed : Moves signed_quoted
unfolding signed_quoted
moves_signed = search (moving, moves_ahead, moves_time) depth 9

pub moves_letter : Moves letter_due
unfolding letter_due
moves_letter = search moving

pub moves_alternative : (es : List ℕ) → Moves (alternative es)
unfolding alternative
moves_alternative es = search (moving, moves_letter)

pub moves_letters : Moves letters
unfolding letters
moves_letters = moves_bind _ _ moves_letter λ e. leaves_while alternative (λ es. moves_leaves (moves_alternative es)) _ _

pub moves_one_event : (n : ℕ) (s : Events) → Moves (one_event n s)
unfolding one_event
moves_one_event n s = search (moving, moves_signed, moves_letters) depth 10

pub moves_event : (n : ℕ) (s : Events) → Moves (event n s)
unfolding event
moves_event n s =
    record { rest = λ ts. (moves_either (ahead "'" ts && leb entry_most s.1) _ _ (moves_bind _ _ (moves_due _) λ p. moves_leaves (moves_refuse _ p)) (moves_one_event n s)).rest ts }

pub moves_entry : (sigs : List ℕ) (ws : List Wave) → Moves (entry sigs ws)
unfolding entry
moves_entry sigs ws = search (moving, moves_event, moves_until) depth 14

pub moves_waveforms : (ns : Names) (ws : List Wave) → Moves (waveforms ns ws)
unfolding waveforms
moves_waveforms ns ws = search (moving, moves_entry, moves_until) depth 9

pub moves_table : (ns : Names) (tabs : Tables) → Moves (table ns tabs)
unfolding table
moves_table ns tabs = search (moving, moves_quoted, moves_waveforms, moves_until) depth 20 fits 9000

pub moves_timing : (ns : Names) → Moves (timing ns)
unfolding timing
moves_timing ns = search (moving, moves_table, moves_until) depth 9

-- ---- DATA, assignments, arguments

pub leaves_chars : (t : Tok) → Leaves (chars_of t)
unfolding chars_of
leaves_chars t = search moving

pub leaves_times : (t : Tok) (o : Option (List ℕ)) → Leaves (times t o)
unfolding times
leaves_times t none = moves_leaves (moves_refuse _ _)
leaves_times t (some s) = leaves_within _ _ _ _

pub moves_repeated : Moves repeated
unfolding repeated
moves_repeated = search (moving, leaves_times, leaves_chars) depth 9

pub leaves_piece : (m : Bool) (t : Tok) → Leaves (piece m t)
unfolding piece
leaves_piece m t = leaves_either (is_word t.word) _ _ (leaves_chars t) (leaves_one_of _ ((λ p. search moving) also (λ p. moves_leaves moves_repeated) also tt) t)

pub moves_part : (m : Bool) (cs : List ℕ) → Moves (part m cs)
unfolding part
moves_part m cs = search (moving, leaves_piece)

pub moves_data : (m : Bool) → Moves (data_read m)
unfolding data_read
moves_data m = moves_closed (part m) (λ cs. moves_leaves (moves_part m cs)) ";" []

pub moves_assign : (ns : Names) (m : Bool) (xs : Assigns) → Moves (assign ns m xs)
unfolding assign
moves_assign ns m xs = search (moving, moves_data) depth 12

pub moves_assigns : (ns : Names) (m : Bool) → Moves (assigns ns m)
unfolding assigns
moves_assigns ns m = search (moving, moves_assign, moves_until)

pub moves_argument : (ns : Names) (b : Body) (xs : Args) → Moves (argument ns b xs)
unfolding argument
moves_argument ns b xs = search (moving, moves_data) depth 14

pub moves_arguments : (ns : Names) (b : Body) → Moves (arguments ns b)
unfolding arguments
moves_arguments ns b = moves_choose _ ((λ p. leaves_give _) also (λ p. moves_leaves (moves_closed (argument ns b) (λ xs. moves_leaves (moves_argument ns b xs)) "}" [])) also tt)

-- ---- statements

pub moves_used : (k : Kind) (d : ℕ) (ns : Names) (l : Decls) → Moves (used k d ns l)
unfolding used
moves_used k d ns l = search (moving, moves_arguments) depth 10

pub moves_head : (e : Env) (own : Bool) (d : ℕ) (seen : Bool) → Moves (head e own d seen)
unfolding head chosen looping shift_head label_head
moves_head e own d seen = moves_choose _ (
    (λ p. search (moving, moves_assigns))
    also (λ p. search (moving, moves_assigns))
    also (λ p. search moving)
    also (λ p. search moving depth 8)
    also (λ p. moves_leaves (moves_used _ d _ _))
    also (λ p. moves_leaves (moves_used _ d _ _))
    also (λ p. search moving depth 8)
    also (λ p. search moving depth 8)
    also (λ p. leaves_give _)
    also tt)

pub moves_in_shift : (ns : Names) → Moves (in_shift ns)
unfolding in_shift
moves_in_shift ns = search (moving, moves_assigns) depth 10

module _ (within : Reader Body) (h : Leaves within) where
  pub leaves_behind : (ns : Names) (on : Bool → Reader Body) → ((s : Bool) → Leaves (on s)) → (seen : Bool) (x : Head) → Leaves (behind ns within on seen x)
  unfolding behind
  leaves_behind ns on k seen ends = leaves_give _
  leaves_behind ns on k seen (vecs p a) = search moving
  leaves_behind ns on k seen (sets x) = search moving
  leaves_behind ns on k seen (loops n) = search moving
  leaves_behind ns on k seen shifts = search (moving, moves_in_shift)
  leaves_behind ns on k seen (uses j x t a) = search moving

  pub moves_statements_f : (e : Env) (own : Bool) (d k : ℕ) (seen : Bool) → Moves (statements_f e own d within k seen)
  unfolding statements_f
  moves_statements_f e own d zero seen = moves_refuse _ _
  moves_statements_f e own d (suc k) seen = moves_bind _ _ (moves_head e own d seen) (leaves_behind e.names (statements_f e own d within k) (λ s. moves_leaves (moves_statements_f e own d k s)) seen)

pub moves_statements : (e : Env) (d : ℕ) (own : Bool) → Moves (statements e d own)
unfolding statements
moves_statements e zero own = record { rest = λ ts. (moves_statements_f _ (moves_leaves (moves_refuse _ 0)) e own zero (suc (left ts)) false).rest ts }
moves_statements e (suc d) own = record { rest = λ ts. (moves_statements_f _ (moves_leaves (moves_statements e d false)) e own (suc d) (suc (left ts)) false).rest ts }

-- ---- the document

pub moves_declared : (e : Env) (own : Bool) → Moves (declared e own)
unfolding declared
moves_declared e own = record { rest = λ ts. (moves_bind _ _ (moves_statements e depth_most own) (λ b. leaves_give _)).rest ts }

pub moves_body : (e : Env) (n : ℕ) (l : Decls) → Moves (one_body e n l)
unfolding one_body
moves_body e n l = search (moving, moves_declared) depth 9

pub moves_macro : (e : Env) → Moves (one_macro e)
unfolding one_macro
moves_macro e = search (moving, moves_body)

pub moves_procedure : (e : Env) → Moves (one_procedure e)
unfolding one_procedure
moves_procedure e = search (moving, moves_body)

pub moves_listed : (l : List Tok) → Moves (list_entry l)
unfolding list_entry
moves_listed l = search moving depth 8

pub moves_burst : Moves burst
unfolding burst
moves_burst = search (moving, moves_listed, moves_until) depth 14

pub moves_exec : (b : Tok) → Moves (exec b)
unfolding exec
moves_exec b = search moving depth 14

pub moves_pattern : (e : Env) (b : Tok) (ps : Decls) → Moves (pattern e b ps)
unfolding pattern
moves_pattern e b ps = search (moving, moves_declared) depth 12
