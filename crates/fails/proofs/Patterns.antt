-- What the patterns of an accepted text have: no `#` and no Shift of their own, labels that are used once, and a place where each is held.
use Prim.Native.Nat.{ℕ, ◌≤◌}
use mathlib.Core.Path.{◌≡◌, sym, ◌∙◌, subst}
use mathlib.Core.Bool.{true}
use mathlib.Core.Option.{none, some}
use mathlib.Core.List.{List, [], ◌∷◌}
use Rattle.tokens.specs.Tokens.{Tok, Toks, toks}
use Rattle.meaning.specs.Bounds.{depth_most, cycles_most}
use Rattle.meaning.specs.Reader.{ok}
use Rattle.meaning.specs.Names.{find}
use Rattle.meaning.specs.Signals.{Names}
use Rattle.meaning.specs.Timing.{Tables}
use Rattle.meaning.specs.Labels.{used_twice, each_once}
use Rattle.meaning.specs.Run.{cycles}
use Rattle.meaning.specs.Statements.{Decl, Decls, Env, for_patterns}
use Rattle.meaning.specs.Document.{one_macro, one_procedure, bodies, pattern, patterns, Read, document, document_up_to}
use Rattle.meaning.proofs.Gives.{bind_ok, bind_go}
use Rattle.meaning.proofs.Once.{earlier_ok}
use Rattle.meaning.proofs.Turns.{Plain, Good}
use Rattle.meaning.proofs.Plain.{read_good, read_plain}
use Rattle.meaning.proofs.Everywhere.{Every, Known}
use Rattle.held.specs.Held.{All, Stands}
use Rattle.held.proofs.All.{all_more, all_found}
use Rattle.held.proofs.Leads.{Leads, leads_bind, leads_give, leads_while}
use Rattle.held.proofs.Declared.{More, one_body_lem, one_pattern}
use Rattle.held.proofs.Bodies.{leads_bodies}
use Rattle.held.proofs.Parts.{first_env, Parts}
use Rattle.held.proofs.Whole.{whole}
use Rattle.timing.specs.declared.Watch.{Watch}
use Rattle.texts.specs.Tables.{Found}
use Rattle.texts.specs.declared.Verdict.{Verdict}
use Rattle.texts.proofs.Sounds.{sound_runs}
use Rattle.texts.proofs.Deciding.{short_sound}
use Rattle.plays.proofs.Patterns.{Playing, patterns_fit}
use Rattle.references.proofs.Parted.{Parted, patterns_parted}
use Rattle.fails.specs.Referred.{Pattern}

-- ---- plain

abbrev AllGood : Decls → Type 0
AllGood = All (λ x. Good x.1.body)

every_good : (l : Decls) → AllGood l → Every Good l
unfolding All Every
every_good [] h = tt
every_good (x ∷ l) h = (h.0, every_good l h.1)

abbrev KnownGood : Env → Type 0
KnownGood e = AllGood e.macros × AllGood e.procs

known : (e : Env) → KnownGood e → Known Good e
known e h = (every_good e.macros h.0, every_good e.procs h.1)

good_more : (e : Env) (names complete : Decls) (ts : Toks) (l : Decls) (us : Toks) → KnownGood e → More e true names complete ts l us → AllGood complete → AllGood l
good_more e names complete ts l us k m h =
    rw m.is (all_more (λ x. Good x.1.body) complete (m.name, m.body) h ((read_good e (known e k) depth_most true).all _ _ _ m.read))

good_macro : (e : Env) (ts : Toks) → KnownGood e → Leads (one_macro e) ts (λ f us. KnownGood f)
unfolding one_macro
good_macro e ts h = leads_bind _ _ λ l us q. leads_give _ (good_more e e.macros e.macros ts l us h ((one_body_lem e _ e.macros ts).all l us q) h.0, h.1)

good_procedure : (e : Env) (ts : Toks) → KnownGood e → Leads (one_procedure e) ts (λ f us. KnownGood f)
unfolding one_procedure
good_procedure e ts h = leads_bind _ _ λ l us q. leads_give _ (h.0, good_more e e.procs e.procs ts l us h ((one_body_lem e _ e.procs ts).all l us q) h.1)

good_bodies : (ns : Names) (tabs : Tables) (ts : Toks) (e : Env) (us : Toks) → bodies (first_env ns tabs) ts ≡ ok e us → KnownGood e
unfolding All
good_bodies ns tabs ts e us q = (leads_bodies (λ f vs. KnownGood f) (λ f us ts r h. h) good_macro good_procedure (first_env ns tabs) ts (tt, tt)).all e us q

abbrev AllPlain : Decls → Type 0
AllPlain = All (λ x. Plain x.1.body)

module _ (E : Env) (k : Known Good E) (b : Tok) where
  plain_pattern : (l : Decls) (ts : Toks) → AllPlain l → Leads (pattern E b l) ts (λ m us. AllPlain m)
  plain_pattern l ts h = record {
    all = λ m us q. (
        let i = ((one_pattern E b l ts).all m us q).3 in
        rw i.is (all_more (λ x. Plain x.1.body) l (i.name, i.body) h ((read_plain E k depth_most).all _ _ _ i.read)));
  }

  plain_patterns : (ts : Toks) → Leads (patterns E b) ts (λ m us. AllPlain m)
  unfolding patterns All
  plain_patterns ts = leads_bind _ _ λ l us q. leads_while (λ m vs. AllPlain m) (pattern E b) plain_pattern _ l us ((plain_pattern [] ts tt).all l us q)

module _ {ts us : Toks} {d : Read} (p : Parts ts d us) where
  patterns_plain : AllPlain d.patterns
  patterns_plain =
      let good = known p.bodied (good_bodies p.names d.tables _ p.bodied _ p.bodies_read) in
      let read = subst (λ (E : Env). patterns E p.burst_name_lem p.patterns_at ≡ ok d.patterns us) p.env_is p.patterns_read in
      (plain_patterns (for_patterns p.bodied) good p.burst_name_lem p.patterns_at).all _ _ read

  -- ---- labels

  labels_once : {vs : Toks} → document ts ≡ ok d vs → used_twice p.burst_name_lem.word p.patterns_at ≡ none
  unfolding document_up_to each_once
  labels_once e =
      let a = bind_ok _ _ ts _ _ p.opening_read in
      let b = bind_ok _ _ a.1 _ _ a.3 in
      let whole =
      sym
      (bind_go _ _ ts a.0 a.1 a.2
      ∙ bind_go _ _ a.1 b.0 b.1 b.2
      ∙ bind_go _ _ b.1 _ p.signals_at b.3
      ∙ bind_go _ _ p.signals_at _ p.groups_at p.signals_read
      ∙ bind_go _ _ p.groups_at _ p.timing_at p.groups_read
      ∙ bind_go _ _ p.timing_at _ p.bodies_at p.timing_read
      ∙ bind_go _ _ p.bodies_at _ p.burst_at_lem p.bodies_read
      ∙ bind_go _ _ p.burst_at_lem _ p.exec_at p.burst_read
      ∙ bind_go _ _ p.exec_at _ p.patterns_at p.exec_read) ∙ e in
      let i = bind_ok _ _ p.patterns_at _ _ whole in
      (earlier_ok _ _ i.2).0

-- ---- an accepted text

-- THE LAW: a pattern that a name finds
module _ {w : Watch} {text places lists tplaces waves book rows list : List ℕ} {v : Verdict} (f : Found text w places lists tplaces waves book rows list v) where
  pub pattern_is : (name : List ℕ) (d : Decl) → find f.it.read.patterns name ≡ some d → cycles 0 d.body ≤ cycles_most
      → Pattern text places lists tplaces book rows v.parts.known v.parts.patterns name f.tabled.parts.env f.it.read.patterns d
  pattern_is name d found fits =
      let p = f.tabled.parts in
      let ps = f.it.read.patterns in
      record {
        describes = f.tabled.describes;
        book_are = f.tabled.patterns_are;
        counted = f.tabled.patterns_counted;
        few = f.tabled.few_patterns;
        found = found;
        stands = (all_found (λ x. Stands p.env x.1) ps (whole (toks text 0) f.it.read f.tabled.rest p).patterns name d found).1;
        deep = (all_found (λ x. Playing x.1.body) ps (patterns_fit (toks text 0) f.it.read f.tabled.rest p) name d found).1.deep;
        plain = (all_found (λ x. Plain x.1.body) ps (patterns_plain p) name d found).1;
        fits = fits;
        short = short_sound text f.is;
        burst = p.burst_name_lem.word;
        all = p.patterns_at;
        once = labels_once p (sound_runs text f.is).read;
        parted = (all_found (λ x. Parted x.1.from p.patterns_at) ps ((patterns_parted p.env p.burst_name_lem p.patterns_at).all _ _ p.patterns_read) name d found).1;
      }
