-- A whole text block by block: the definition reads it as the code does, and what the blocks give is all that the tables hold.
use Prim.Native.Nat.{ℕ, ◌≤◌}
use native.Mathlib.Omega.{arith}
use mathlib.Core.Path.{◌≡◌, refl, ◌∙◌}
use mathlib.Core.List.{List, [], ◌∷◌}
use lib.ListN.{length, length-append}
use Rattle.tokens.specs.Tokens.{Tok, Toks}
use Rattle.meaning.specs.Reader.{Res, Reader, ok, refuse, after, ◌>>=◌, ◌>>◌, give, due, option}
use Rattle.meaning.specs.Signals.{Names, signal, signals, signal_up_to, signals_up_to}
use Rattle.meaning.specs.Groups.{groups}
use Rattle.meaning.specs.Timing.{Tables, timing}
use Rattle.meaning.specs.Labels.{each_once}
use Rattle.meaning.specs.Statements.{Decls, Env, for_patterns}
use Rattle.meaning.specs.Document.{bodies, burst, exec, patterns, Read, document, document_up_to}
use Rattle.meaning.proofs.Gives.{Gives, gives_bind, gives_after, gives_give, gives_until}
use Rattle.meaning.proofs.Once.{once_ok}
use Rattle.held.proofs.Leads.{Leads, leads_bind, leads_give}
use Rattle.held.proofs.Parts.{first_env, Parts}
use Rattle.signals.specs.Names.{front}
use Rattle.signals.proofs.Tidy.{Declared, declared_front}
use Rattle.declared.specs.Declarations.{version, declarations}
use Rattle.texts.specs.Patterns.{ending}

-- ---- readers that do the same

abbrev pub Same : {A : Type 0} → Reader A → Reader A → Type 0
Same m k = (ts : Toks) → m ts ≡ k ts

module _ {A B : Type 0} (m : Reader A) where
  same_on : {f g : A → Reader B} → ((a : A) → Same (f a) (g a)) → Same (m >>= f) (m >>= g)
  unfolding ◌>>=◌ after
  same_on {f} {g} h ts = by (m ts)
    where
      by : (r : Res A) → after r f ≡ after r g
      by (ok a us) = h a us
      by (refuse n p) = refl

  -- one reader and then the next, and then others
  same_after : {C : Type 0} (f : A → Reader B) (g : B → Reader C) → Same (m >>= f >>= g) (m >>= λ a. f a >>= g)
  unfolding ◌>>=◌ after
  same_after f g ts = by (m ts)
    where
      by : (r : Res A) → after (after r f) g ≡ after r (λ a us. after (f a us) g)
      by (ok a us) = refl
      by (refuse n p) = refl

-- what the three parts of a text give
abbrev pub read_of : Names × Names × Tables → Tok × List Tok × Decls → Read
read_of x y = record { signals = x.0; tables = x.2; listed = y.1; patterns = y.2 }

-- a text: the declarations, the bodies, and what is behind them
unfoldable pub blocks : Reader Read
blocks = declarations >>= λ x. bodies (first_env x.1 x.2) >>= λ e. ending e >>= λ y. give (read_of x y)

module _ {A : Type 0} where
  version_then : (k : ℕ → Reader A) → Same (version >>= k) (due "STIL" >>= λ a. due "1.0" >>= λ b. due ";" >>= k)
  unfolding version
  version_then k ts = same_after (due "STIL") (λ a. due "1.0" >>= λ b. due ";") k ts ∙ same_on (due "STIL") (λ a. same_after (due "1.0") (λ b. due ";") k) ts

  front_then : (k : Names × Names → Reader A) → Same (front >>= k) (signals >>= λ ss. option "SignalGroups" groups ss >>= λ ns. k (ss, ns))
  unfolding front give ◌>>=◌ after
  front_then k ts =
      same_after signals (λ ss. option "SignalGroups" groups ss >>= λ ns. give (ss, ns)) k ts
      ∙ same_on signals (λ ss. same_after (option "SignalGroups" groups ss) (λ ns. give (ss, ns)) k) ts

  declarations_then : (k : Names × Names × Tables → Reader A)
      → Same (declarations >>= k)
      (due "STIL" >>= λ a. due "1.0" >>= λ b. due ";" >>= λ c. signals >>= λ ss. option "SignalGroups" groups ss >>= λ ns. timing ns >>= λ ts. k (ss, ns, ts))
  unfolding declarations give ◌>>=◌ after
  declarations_then k ts =
      same_after version (λ v. front >>= λ f. timing f.1 >>= λ t. give (f.0, f.1, t)) k ts
      ∙ version_then (λ v. (front >>= λ f. timing f.1 >>= λ t. give (f.0, f.1, t)) >>= k) ts
      ∙ same_on (due "STIL") (λ a. same_on (due "1.0") λ b. same_on (due ";") λ c us.
      same_after front (λ f. timing f.1 >>= λ t. give (f.0, f.1, t)) k us
      ∙ front_then (λ f. (timing f.1 >>= λ t. give (f.0, f.1, t)) >>= k) us
      ∙ same_on signals (λ ss. same_on (option "SignalGroups" groups ss) λ ns. same_after (timing ns) (λ t. give (ss, ns, t)) k) us) ts

  ending_then : (e : Env) (k : Tok × List Tok × Decls → Reader A)
      → Same (ending e >>= k) (burst >>= λ b. exec b.0 >>= λ q. each_once b.0.word (patterns (for_patterns e) b.0) >>= λ ps. k (b.0, b.1, ps))
  unfolding ending give ◌>>=◌ after
  ending_then e k ts =
      same_after burst (λ b. exec b.0 >>= λ q. each_once b.0.word (patterns (for_patterns e) b.0) >>= λ ps. give (b.0, b.1, ps)) k ts
      ∙ same_on burst (λ b us.
      same_after (exec b.0) (λ q. each_once b.0.word (patterns (for_patterns e) b.0) >>= λ ps. give (b.0, b.1, ps)) k us
      ∙ same_on (exec b.0) (λ q. same_after (each_once b.0.word (patterns (for_patterns e) b.0)) (λ ps. give (b.0, b.1, ps)) k) us) ts

pub document_blocks : Same blocks document
unfolding blocks document_up_to
document_blocks ts =
    declarations_then (λ x. bodies (first_env x.1 x.2) >>= λ e. ending e >>= λ y. give (read_of x y)) ts
    ∙ same_on (due "STIL") (λ a. same_on (due "1.0") λ b. same_on (due ";") λ c. same_on signals λ ss. same_on (option "SignalGroups" groups ss) λ ns.
    same_on (timing ns) λ tabs. same_on (bodies (first_env ns tabs)) λ e. ending_then e (λ y. give (read_of (ss, ns, tabs) y))) ts

-- ---- the parts of a text

pub record Declaring (ts : Toks) (x : Names × Names × Tables) (us : Toks) : Type 0 where
  pub signals_at : Toks
  pub groups_at : Toks
  pub timing_at : Toks
  pub opening_end : ℕ
  pub opening_read : (do due "STIL"; due "1.0"; due ";") ts ≡ ok opening_end signals_at
  pub signals_read : signals signals_at ≡ ok x.0 groups_at
  pub groups_read : option "SignalGroups" groups x.0 groups_at ≡ ok x.1 timing_at
  pub timing_read : timing x.1 timing_at ≡ ok x.2 us

pub declaring : (ts : Toks) → Leads declarations ts (Declaring ts)
unfolding declarations version front
declaring ts =
    leads_bind _ _ λ v vs v-is. leads_bind _ _ λ f fs f-is. leads_bind _ _ λ tabs us t-is.
    let i = (fronted vs).all f fs f-is in
    leads_give _ (record {
      signals_at = vs;
      groups_at = i.0;
      timing_at = fs;
      opening_end = v;
      opening_read = v-is;
      signals_read = i.1;
      groups_read = i.2;
      timing_read = t-is;
    })
  where
    fronted : (vs : Toks) → Leads {A = Names × Names} (signals >>= λ ss. option "SignalGroups" groups ss >>= λ ns. give (ss, ns)) vs
        (λ f fs. (gs : Toks) × (signals vs ≡ ok f.0 gs) × (option "SignalGroups" groups f.0 gs ≡ ok f.1 fs))
    fronted vs = leads_bind _ _ λ ss gs s-is. leads_bind _ _ λ ns fs n_is. leads_give _ (gs, s-is, n_is)

pub record Ending (e : Env) (ts : Toks) (y : Tok × List Tok × Decls) (us : Toks) : Type 0 where
  pub exec_at : Toks
  pub patterns_at : Toks
  pub exec_end : ℕ
  pub burst_read : burst ts ≡ ok (y.0, y.1) exec_at
  pub exec_read : exec y.0 exec_at ≡ ok exec_end patterns_at
  pub patterns_read : patterns (for_patterns e) y.0 patterns_at ≡ ok y.2 us

pub ending_parts : (e : Env) (ts : Toks) → Leads (ending e) ts (Ending e ts)
unfolding ending
ending_parts e ts =
    leads_bind _ _ λ b bs b-is. leads_bind _ _ λ q qs q-is. leads_bind _ _ λ ps us p-is.
    leads_give _ (record { exec_at = bs; patterns_at = qs; exec_end = q; burst_read = b-is; exec_read = q-is; patterns_read = once_ok _ _ qs p-is })

-- each behind the one before
unfoldable pub parts_of : {ts us vs ws : Toks} {x : Names × Names × Tables} {e : Env} {y : Tok × List Tok × Decls} → declarations ts ≡ ok x us
    → bodies (first_env x.1 x.2) us ≡ ok e vs → ending e vs ≡ ok y ws → Parts ts (read_of x y) ws
parts_of {ts} {us} {vs} {ws} {x} {e} {y} d-is b-is e-is =
    let d = (declaring ts).all x us d-is in
    let n = (ending_parts e vs).all y ws e-is in
    record {
      signals_at = d.signals_at;
      groups_at = d.groups_at;
      timing_at = d.timing_at;
      bodies_at = us;
      burst_at_lem = vs;
      exec_at = n.exec_at;
      patterns_at = n.patterns_at;
      names = x.1;
      bodied = e;
      env = for_patterns e;
      env_is = refl;
      burst_name_lem = y.0;
      opening_end = d.opening_end;
      exec_end = n.exec_end;
      opening_read = d.opening_read;
      signals_read = d.signals_read;
      groups_read = d.groups_read;
      timing_read = d.timing_read;
      bodies_read = b-is;
      burst_read = n.burst_read;
      exec_read = n.exec_read;
      patterns_read = n.patterns_read;
    }

-- ---- what is known of the signals

abbrev Some : Names → Type 0
Some ss = 1 ≤ length ss

some_signal : (ns : Names) → Gives Some (signal ns)
unfolding signal_up_to
some_signal ns =
    gives_after Some _ _ λ t. gives_after Some _ _ λ u. gives_after Some _ _ λ p. gives_after Some _ _ λ q.
    gives_give Some _ (omega (arith, length-append ns ((t, length ns ∷ []) ∷ [])))

some_signals : Gives Some signals
unfolding signals_up_to
some_signals =
    gives_after Some _ _ λ p. gives_after Some _ _ λ q.
    gives_bind Some Some _ _ (some_signal []) λ ns h. gives_until Some "}" signal (λ ns h. some_signal ns) ns h

-- the signals and names that were declared
pub record Signals (ss ns : Names) : Type 0 where
  pub declared : Declared ss ns
  pub some : Some ss

abbrev Both : Names × Names → Type 0
Both x = Signals x.0 x.1

some_front : Gives (λ x. Some x.0) front
unfolding front
some_front = gives_bind Some (λ x. Some x.0) _ _ some_signals λ ss h. gives_after (λ x. Some x.0) _ _ λ ns. gives_give (λ x. Some x.0) _ h

both_front : Gives Both front
both_front = record { all = λ ts x us e. record { declared = declared_front.all ts x us e; some = some_front.all ts x us e } }

pub declared_signals : Gives (λ x. Signals x.0 x.1) declarations
unfolding declarations
declared_signals = gives_after P _ _ λ v. gives_bind Both P _ _ both_front λ f h. gives_after P _ _ λ t. gives_give P _ h
  where
    P : Names × Names × Tables → Type 0
    P x = Signals x.0 x.1
