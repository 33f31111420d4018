-- Every body that a text declares begins in the text behind its name and its `{`: whatever is read leaves a stream of the text.
use mathlib.Core.Path.{◌≡◌, refl, sym, ◌∙◌, subst}
use Prim.Native.Nat.{ℕ}
use mathlib.Core.Bool.{Bool}
use mathlib.Core.List.{List, []}
use Rattle.tokens.specs.Written.{bytes}
use Rattle.tokens.specs.Tokens.{Tok, Toks, tok, toks}
use Rattle.tokens.proofs.Laws.{unfolds}
use Rattle.meaning.specs.Signals.{Names}
use Rattle.meaning.specs.Groups.{groups}
use Rattle.meaning.specs.Timing.{Tables}
use Rattle.meaning.specs.Statements.{Decl, Decls, Env}
use Rattle.meaning.specs.Document.{one_body, one_macro, one_procedure, bodies, pattern, patterns, Read}
use Rattle.held.specs.Held.{All, Placed}
use Rattle.held.proofs.All.{all_more}
use Rattle.held.proofs.Rest.{Rest, all, behind, moving, moves_leaves, moves_bind, moves_due, leaves_option}
use Rattle.held.proofs.Grammar.{moves_signals, moves_groups, moves_timing, moves_body, moves_burst, moves_exec, moves_pattern}
use Rattle.held.proofs.Leads.{Leads, leads_bind, leads_give, leads_while}
use Rattle.held.proofs.Due.{new_is}
use Rattle.held.proofs.Declared.{More, one_body_lem, one_pattern}
use Rattle.held.proofs.Bodies.{leads_bodies}
use Rattle.held.proofs.Parts.{first_env, Parts}

module _ (text : List ℕ) where
  -- a stream of the text
  abbrev pub Stream : Toks → Type 0
  Stream ts = (at : ℕ) × (ts ≡ toks text at)

  pub rest_stream : {us ts : Toks} → Rest us ts → Stream ts → Stream us
  rest_stream all h = h
  rest_stream (behind {t} {us} {ts} r) h = rest_stream r (_, (unfolds text h.0 t ts (sym h.1)).rest)

  -- a name and a `{` at the front of a stream of the text place the body
  placed : (ts : Toks) → Stream ts → (t : Tok) (p : ℕ) (d : Decl) → ts ≡ tok t (tok (record { at = p; word = bytes "{" }) d.from) → Placed text (t, d)
  unfolding bytes
  placed ts h t p d e =
      let f : toks text h.0 ≡ tok t (tok (record { at = p; word = bytes "{" }) d.from) = sym h.1 ∙ e in
      let u = unfolds text h.0 t _ f in
      let v = unfolds text _ (record { at = p; word = bytes "{" }) d.from (sym u.rest) in
      record { at = h.0; brace = p; named = f; from = v.rest }

  -- THE LAW of one declaration: it has its place, with those before it
  pub more_placed : (e : Env) (own : Bool) (names complete : Decls) (ts : Toks) (l : Decls) (us : Toks) → More e own names complete ts l us → Stream ts → All (Placed text) complete → All (Placed text) l
  more_placed e own names complete ts l us m s h =
      rw m.is (all_more _ complete (m.name, m.body) h (placed ts s m.name m.brace m.body ((new_is names ts).all _ _ m.named)))

  -- some declared bodies, and what stands behind them
  pub record PlacedAll (l : Decls) (ts : Toks) : Type 0 where
    pub stream : Stream ts
    pub placed : All (Placed text) l

  -- ---- macros and procedures

  body_placed : (e : Env) (n : ℕ) (l : Decls) (ts : Toks) → PlacedAll l ts → Leads (one_body e n l) ts PlacedAll
  body_placed e n l ts h = record {
    all = λ m us q. record {
      stream = rest_stream ((moves_leaves (moves_body e n l)).rest ts m us q) h.stream;
      placed = more_placed e _ _ l ts m us ((one_body_lem e n l ts).all m us q) h.stream h.placed;
    };
  }

  pub record PlacedIn (e : Env) (ts : Toks) : Type 0 where
    pub stream : Stream ts
    pub macros : All (Placed text) e.macros
    pub procs : All (Placed text) e.procs

  macro_placed : (e : Env) (ts : Toks) → PlacedIn e ts → Leads (one_macro e) ts PlacedIn
  unfolding one_macro
  macro_placed e ts h = leads_bind _ _ λ l us q.
      let k = (body_placed e _ e.macros ts (record { stream = h.stream; placed = h.macros })).all l us q in
      leads_give _ (record { stream = k.stream; macros = k.placed; procs = h.procs })

  procedure_placed : (e : Env) (ts : Toks) → PlacedIn e ts → Leads (one_procedure e) ts PlacedIn
  unfolding one_procedure
  procedure_placed e ts h = leads_bind _ _ λ l us q.
      let k = (body_placed e _ e.procs ts (record { stream = h.stream; placed = h.procs })).all l us q in
      leads_give _ (record { stream = k.stream; macros = h.macros; procs = k.placed })

  pub bodies_placed : (ns : Names) (tabs : Tables) (ts : Toks) → Stream ts → Leads (bodies (first_env ns tabs)) ts PlacedIn
  unfolding All
  bodies_placed ns tabs ts s =
      leads_bodies PlacedIn (λ e us ts r h. record { stream = rest_stream r h.stream; macros = h.macros; procs = h.procs }) macro_placed procedure_placed
      (first_env ns tabs) ts (record { stream = s; macros = tt; procs = tt })

  -- ---- patterns

  pattern_placed : (e : Env) (b : Tok) (l : Decls) (ts : Toks) → PlacedAll l ts → Leads (pattern e b l) ts PlacedAll
  pattern_placed e b l ts h = record {
    all = λ m us q. (
        let i = (one_pattern e b l ts).all m us q in
        record {
          stream = rest_stream ((moves_leaves (moves_pattern e b l)).rest ts m us q) h.stream;
          placed = more_placed e _ _ l i.1 m us i.3 (rest_stream ((moves_leaves (moves_due _)).rest ts i.0 i.1 i.2) h.stream) h.placed;
        });
  }

  pub patterns_placed : (e : Env) (b : Tok) (ts : Toks) → Stream ts → Leads (patterns e b) ts PlacedAll
  unfolding patterns All
  patterns_placed e b ts s =
      leads_bind _ _ λ l us q. leads_while PlacedAll (pattern e b) (pattern_placed e b) _ l us ((pattern_placed e b [] ts (record { stream = s; placed = tt })).all l us q)

  -- ---- the whole text

  pub record Places (E : Env) (d : Read) : Type 0 where
    pub macros : All (Placed text) E.macros
    pub procs : All (Placed text) E.procs
    pub patterns : All (Placed text) d.patterns

  -- THE LAW: every body that a text declares has its place in the text
  pub places : (d : Read) (us : Toks) (p : Parts (toks text 0) d us) → Places p.env d
  places d us p =
      let a = rest_stream ((moves_leaves (moves_bind _ _ (moves_due _) λ x. search moving)).rest _ _ _ p.opening_read) (0, refl) in
      let b = rest_stream ((moves_leaves moves_signals).rest _ _ _ p.signals_read) a in
      let c = rest_stream ((leaves_option "SignalGroups" groups (λ ns. moves_leaves (moves_groups ns)) _).rest _ _ _ p.groups_read) b in
      let f = rest_stream ((moves_leaves (moves_timing _)).rest _ _ _ p.timing_read) c in
      let g = (bodies_placed p.names d.tables _ f).all _ _ p.bodies_read in
      let h = rest_stream ((moves_leaves moves_burst).rest _ _ _ p.burst_read) g.stream in
      let i = rest_stream ((moves_leaves (moves_exec _)).rest _ _ _ p.exec_read) h in
      let l = ((patterns_placed p.env p.burst_name_lem _ i).all _ _ p.patterns_read).placed in
      subst (λ (E : Env). Places E d) (sym p.env_is) (record { macros = g.macros; procs = g.procs; patterns = l })
