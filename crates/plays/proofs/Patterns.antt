-- Every pattern of a text that was read can be played from its beginning.
use native.Mathlib.Omega.{arith}
use mathlib.Core.Path.{◌≡◌, sym, subst}
use mathlib.Core.Bool.{Bool, true, false}
use mathlib.Core.List.{[], ◌∷◌}
use Rattle.tokens.specs.Tokens.{Tok, Toks}
use Rattle.meaning.specs.Bounds.{depth_most}
use Rattle.meaning.specs.Lists.{inside}
use Rattle.meaning.specs.Reader.{ok}
use Rattle.meaning.specs.Signals.{Names}
use Rattle.meaning.specs.Timing.{Tables}
use Rattle.meaning.specs.Body.{Body}
use Rattle.meaning.specs.Statements.{Decls, Env, for_patterns, statements}
use Rattle.meaning.specs.Document.{one_macro, one_procedure, bodies, pattern, patterns, Read}
use Rattle.meaning.proofs.Gives.{Gives}
use Rattle.meaning.proofs.Everywhere.{Every, Known, every_more}
use Rattle.meaning.proofs.Turns.{Good}
use Rattle.meaning.proofs.Plain.{read_good, read_plain}
use Rattle.meaning.proofs.Depth.{read_within}
use Rattle.held.specs.Held.{All}
use Rattle.held.proofs.Leads.{Leads, leads_bind, leads_give, leads_while}
use Rattle.held.proofs.Declared.{More, one_body_lem, one_pattern}
use Rattle.held.proofs.Bodies.{leads_bodies}
use Rattle.held.proofs.Parts.{first_env, Parts}
use Rattle.plays.specs.Plays.{Single, Fits}
use Rattle.plays.proofs.Fitting.{plain_outside, plain_shifting}
use Rattle.plays.proofs.Single.{read_single}

module _ (P : Body → Type 0) where
  -- one more that was read
  read_more : (e : Env) (own : Bool) (names complete : Decls) (ts : Toks) (l : Decls) (us : Toks) → Gives P (statements e depth_most own)
      → More e own names complete ts l us → Every P complete → Every P l
  read_more e own names complete ts l us g m h = rw m.is (every_more P complete m.name m.body h (g.all _ _ _ m.read))

  module _ (g : (e : Env) → Known P e → (own : Bool) → Gives P (statements e depth_most own)) where
    known_macro : (e : Env) (ts : Toks) → Known P e → Leads (one_macro e) ts (λ f us. Known P f)
    unfolding one_macro
    known_macro e ts h =
        leads_bind _ _ λ l us q. leads_give _ (read_more e true _ e.macros ts l us (g e h true) ((one_body_lem e _ e.macros ts).all l us q) h.0, h.1)

    known_procedure : (e : Env) (ts : Toks) → Known P e → Leads (one_procedure e) ts (λ f us. Known P f)
    unfolding one_procedure
    known_procedure e ts h =
        leads_bind _ _ λ l us q. leads_give _ (h.0, read_more e true _ e.procs ts l us (g e h true) ((one_body_lem e _ e.procs ts).all l us q) h.1)

    -- every macro and procedure of a text
    known_all : (ns : Names) (tabs : Tables) (ts : Toks) (E : Env) (us : Toks) → bodies (first_env ns tabs) ts ≡ ok E us → Known P E
    unfolding Every
    known_all ns tabs ts E us q = (leads_bodies (λ e us. Known P e) (λ e us ts r h. h) known_macro known_procedure (first_env ns tabs) ts (tt, tt)).all E us q

  module _ (E : Env) (g : Gives P (statements E depth_most false)) where
    every_pattern : (b : Tok) (l : Decls) (ts : Toks) → Every P l → Leads (pattern E b l) ts (λ l us. Every P l)
    every_pattern b l ts h = record { all = λ m us q. read_more E false _ l _ m us g ((one_pattern E b l ts).all m us q).3 h }

    every_patterns : (b : Tok) (ts : Toks) → Leads (patterns E b) ts (λ l us. Every P l)
    unfolding patterns Every
    every_patterns b ts =
        leads_bind _ _ λ l us q. leads_while (λ l us. Every P l) (pattern E b) (every_pattern b) _ l us ((every_pattern b [] ts tt).all l us q)

-- with all levels to go, and no arguments
abbrev pub Playing : Body → Type 0
Playing = Fits depth_most 0 []

pattern_fits : (E : Env) → Known Good E → Known Single E → Gives Playing (statements E depth_most false)
unfolding inside
pattern_fits E good single = record {
  all = λ ts b us q. (
      let plain = (read_plain E good depth_most).all ts b us q in
      record {
        deep = (read_within E depth_most false).all ts b us q;
        levels = omega arith;
        fed = rw (plain_outside b plain);
        shift_fed = rw (plain_shifting b plain);
        single = (read_single E single depth_most false).all ts b us q;
        good = (read_good E good depth_most false).all ts b us q;
      });
}

every_all : (P : Body → Type 0) (l : Decls) → Every P l → All (λ x. P x.1.body) l
unfolding Every All
every_all P [] h = tt
every_all P (x ∷ l) h = (h.0, every_all P l h.1)

-- THE LAW
pub patterns_fit : (ts : Toks) (d : Read) (us : Toks) → Parts ts d us → All (λ x. Playing x.1.body) d.patterns
patterns_fit ts d us p =
    let good = known_all Good (λ e k own. read_good e k depth_most own) p.names d.tables _ p.bodied _ p.bodies_read in
    let single = known_all Single (λ e k own. read_single e k depth_most own) p.names d.tables _ p.bodied _ p.bodies_read in
    let fits = subst (λ (E : Env). Gives Playing (statements E depth_most false)) (sym p.env_is) (pattern_fits (for_patterns p.bodied) good single) in
    every_all Playing d.patterns
    ((every_patterns Playing p.env fits p.burst_name_lem p.patterns_at).all d.patterns us p.patterns_read)
