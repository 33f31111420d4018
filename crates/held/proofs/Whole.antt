-- Every body that a text declares is held where it is declared, in the environment in which its declarations end.
use mathlib.Core.Path.{◌≡◌, refl, sym, ◌∙◌, subst}
use Prim.Native.Nat.{ℕ}
use native.Mathlib.Omega.{arith}
use mathlib.Core.Bool.{Bool, true, false}
use mathlib.Core.Option.{Option, none, some}
use mathlib.Core.List.{List, [], ◌∷◌, ◌++◌, append_assoc, append-nil}
use Rattle.tokens.specs.Tokens.{Tok, Toks}
use Rattle.meaning.specs.Bounds.{depth_most}
use Rattle.meaning.specs.Refusals.{not_defined}
use Rattle.meaning.specs.Reader.{ok}
use Rattle.meaning.specs.Names.{find}
use Rattle.meaning.specs.Signals.{Names}
use Rattle.meaning.specs.Timing.{Tables}
use Rattle.meaning.specs.Body.{Body, done, inner, entered, listed}
use Rattle.meaning.specs.Statements.{Decl, Decls, Env, for_patterns}
use Rattle.meaning.specs.Document.{one_macro, one_procedure, bodies, pattern, patterns, Read}
use Rattle.meaning.specs.Meaning.{Answer, given, refused, answering, run_of}
use Rattle.held.specs.Held.{All, AllStand, Listed}
use Rattle.held.proofs.All.{all_more, all_found}
use Rattle.held.proofs.Leads.{Leads, leads_bind, leads_give, leads_while}
use Rattle.held.proofs.Again.{Later}
use Rattle.held.proofs.Held.{held}
use Rattle.held.proofs.Declared.{More, one_body_lem, one_pattern}
use Rattle.held.proofs.Bodies.{leads_bodies, bodies_stay}
use Rattle.held.proofs.Parts.{first_env, Parts}

pub later_patterns : (e : Env) → Later e (for_patterns e)
later_patterns e =
    record { names = refl; tables = refl; macros = []; procs = []; macros_is = append-nil e.macros; procs_is = append-nil e.procs; in_pattern = refl }

-- one more, and then others, are others behind it
earlier : (known : Decls) (x : Tok × Decl) (l more all : Decls) → l ≡ known ++ x ∷ [] → l ++ more ≡ all → known ++ (x ∷ more) ≡ all
earlier known x l more all is e = sym (append_assoc known (x ∷ []) more) ∙ (rw is at e)

module _ (E : Env) where
  -- THE LAW of one declaration: it stands with those before it
  pub more_stands : (e : Env) → Later e E → AllStand E e.macros → AllStand E e.procs
      → (own : Bool) (names complete : Decls) (ts : Toks) (l : Decls) (us : Toks) → More e own names complete ts l us → AllStand E complete → AllStand E l
  more_stands e later ms ps own names complete ts l us m h =
      rw m.is (all_more _ complete (m.name, m.body) h (us, held E e later ms ps depth_most (omega arith) own m.body.from m.body.body us m.read))

  -- ---- macros and procedures

  -- what e has stands, if e grows to E
  pub record Growing (e : Env) : Type 0 where
    pub all : Later e E → AllStand E e.macros × AllStand E e.procs

  pub growing_macro : (e : Env) (ts : Toks) → Growing e → Leads (one_macro e) ts (λ f us. Growing f)
  unfolding one_macro
  growing_macro e ts h = leads_bind _ _ λ l us q. leads_give _ (record {
    all = λ later. (
        let m = (one_body_lem e _ e.macros ts).all l us q in
        let p : Later e E = record {
          names = later.names;
          tables = later.tables;
          macros = (m.name, m.body) ∷ later.macros;
          procs = later.procs;
          macros_is = earlier e.macros (m.name, m.body) l later.macros E.macros m.is later.macros_is;
          procs_is = later.procs_is;
          in_pattern = later.in_pattern;
        } in
        let k = h.all p in
        (more_stands e p k.0 k.1 true _ e.macros ts l us m k.0, k.1));
  })

  pub growing_procedure : (e : Env) (ts : Toks) → Growing e → Leads (one_procedure e) ts (λ f us. Growing f)
  unfolding one_procedure
  growing_procedure e ts h = leads_bind _ _ λ l us q. leads_give _ (record {
    all = λ later. (
        let m = (one_body_lem e _ e.procs ts).all l us q in
        let p : Later e E = record {
          names = later.names;
          tables = later.tables;
          macros = later.macros;
          procs = (m.name, m.body) ∷ later.procs;
          macros_is = later.macros_is;
          procs_is = earlier e.procs (m.name, m.body) l later.procs E.procs m.is later.procs_is;
          in_pattern = later.in_pattern;
        } in
        let k = h.all p in
        (k.0, more_stands e p k.0 k.1 true _ e.procs ts l us m k.1));
  })

  -- ---- the run

  pub listed_stand : (ps : Decls) → AllStand E ps → (l : List Tok) (r : Body) → run_of ps l ≡ given r → Listed E ps l r
  unfolding run_of answering Listed
  listed_stand ps h [] r e = let q : done ≡ r = cc in sym q
  listed_stand ps h (t ∷ l) r e = by (find ps t.word) refl e (listed_stand ps h l)
    where
      on : (x : Decl) → find ps t.word ≡ some x → (a : Answer Body) → answering a (λ s. given (inner (entered listed 0 []) x.body s)) ≡ given r
          → ((s : Body) → a ≡ given s → Listed E ps l s) → Listed E ps (t ∷ l) r
      on x f (given s) e ih = let q : inner (entered listed 0 []) x.body s ≡ r = cc in (x, s, sym q, f, (all_found _ ps h t.word x f).1, ih s refl)
      on x f (refused n p) e ih = let z : ◌≡◌ {A = ℕ} 0 1 = cc in absurd (omega arith)

      by : (o : Option Decl) → find ps t.word ≡ o
          → ◌≡◌ {A = Answer Body} (elim o [
            | none ↦ refused not_defined t.at
            | some x ↦ answering (run_of ps l) λ s. given (inner (entered listed 0 []) x.body s)
          ]) (given r)
          → ((s : Body) → run_of ps l ≡ given s → Listed E ps l s) → Listed E ps (t ∷ l) r
      by none f e ih = let z : ◌≡◌ {A = ℕ} 0 1 = cc in absurd (omega arith)
      by (some x) f e ih = on x f (run_of ps l) e ih

-- ---- patterns

module _ (e : Env) (ms : AllStand (for_patterns e) e.macros) (ps : AllStand (for_patterns e) e.procs) where
  pattern_stands : (b : Tok) (l : Decls) (ts : Toks) → AllStand (for_patterns e) l → Leads (pattern (for_patterns e) b l) ts (λ l us. AllStand (for_patterns e) l)
  pattern_stands b l ts h = record {
    all = λ m us q. (
        let i = (one_pattern (for_patterns e) b l ts).all m us q in
        more_stands (for_patterns e) (for_patterns e) (later_patterns (for_patterns e)) ms ps false _ l _ m us i.3 h);
  }

  pub patterns_stand : (b : Tok) (ts : Toks) → Leads (patterns (for_patterns e) b) ts (λ l us. AllStand (for_patterns e) l)
  unfolding patterns All
  patterns_stand b ts =
      leads_bind _ _ λ l us q. leads_while (λ l us. AllStand (for_patterns e) l) (pattern (for_patterns e) b) (pattern_stands b) _ l us ((pattern_stands b [] ts tt).all l us q)

-- where the declarations were read, every macro and procedure stands, as patterns use them
pub bodies_stand : (ns : Names) (tabs : Tables) (ts : Toks) (e : Env) (us : Toks) → bodies (first_env ns tabs) ts ≡ ok e us
    → AllStand (for_patterns e) e.macros × AllStand (for_patterns e) e.procs
unfolding All
bodies_stand ns tabs ts e us q =
    ((leads_bodies (λ f us. Growing (for_patterns e) f) (λ f us ts r h. h) (growing_macro (for_patterns e)) (growing_procedure (for_patterns e)) (first_env ns tabs) ts (record { all = λ later. (tt, tt) })
    ).all e us q).all (later_patterns e)

-- in a text that was read, all that is declared stands, and names and tables are the text's
pub record Whole (E : Env) (ns : Names) (d : Read) : Type 0 where
  pub names : E.names ≡ ns
  pub tables : E.tables ≡ d.tables
  pub macros : AllStand E E.macros
  pub procs : AllStand E E.procs
  pub patterns : AllStand E d.patterns

pub whole : (ts : Toks) (d : Read) (us : Toks) (p : Parts ts d us) → Whole p.env p.names d
whole ts d us p =
    let s = (bodies_stay (first_env p.names d.tables) p.bodies_at).all _ _ p.bodies_read in
    let k = bodies_stand p.names d.tables _ _ _ p.bodies_read in
    let read = subst (λ (E : Env). patterns E p.burst_name_lem p.patterns_at ≡ ok d.patterns us) p.env_is p.patterns_read in
    subst (λ (E : Env). Whole E p.names d) (sym p.env_is) (record {
      names = s.0;
      tables = s.1;
      macros = k.0;
      procs = k.1;
      patterns = (patterns_stand p.bodied k.0 k.1 p.burst_name_lem p.patterns_at).all _ _ read;
    })
