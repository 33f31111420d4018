-- A text that was read: its parts, each behind the one before.
use mathlib.Core.Path.{◌≡◌, refl, ◌∙◌}
use Prim.Native.Nat.{ℕ}
use mathlib.Core.Bool.{false}
use mathlib.Core.List.{[]}
use Rattle.tokens.specs.Tokens.{Tok, Toks}
use Rattle.meaning.specs.Reader.{ok, ◌>>◌, due, option}
use Rattle.meaning.specs.Signals.{Names, signals}
use Rattle.meaning.specs.Groups.{groups}
use Rattle.meaning.specs.Timing.{Tables, timing}
use Rattle.meaning.specs.Statements.{Env, for_patterns}
use Rattle.meaning.specs.Document.{bodies, burst, exec, patterns, Read, document, document_up_to}
use Rattle.meaning.proofs.Gives.{bind_go}
use Rattle.meaning.proofs.Once.{once_ok}
use Rattle.held.proofs.Leads.{Leads, leads_bind, leads_give}

-- before any macro or procedure
abbrev pub first_env : Names → Tables → Env
first_env ns tabs = record { names = ns; tables = tabs; macros = []; procs = []; pattern = false }

pub record Parts (ts : Toks) (d : Read) (us : Toks) : Type 0 where
  -- where each begins
  pub signals_at : Toks
  pub groups_at : Toks
  pub timing_at : Toks
  pub bodies_at : Toks
  pub burst_at_lem : Toks
  pub exec_at : Toks
  pub patterns_at : Toks
  -- the names of signals and groups, what is declared in the end, the same before a pattern's statements, the burst's name
  pub names : Names
  pub bodied : Env
  pub env : Env
  pub burst_name_lem : Tok
  pub env_is : env ≡ for_patterns bodied
  pub opening_end : ℕ
  pub exec_end : ℕ
  pub opening_read : (do due "STIL"; due "1.0"; due ";") ts ≡ ok opening_end signals_at
  pub signals_read : signals signals_at ≡ ok d.signals groups_at
  pub groups_read : option "SignalGroups" groups d.signals groups_at ≡ ok names timing_at
  pub timing_read : timing names timing_at ≡ ok d.tables bodies_at
  pub bodies_read : bodies (first_env names d.tables) bodies_at ≡ ok bodied burst_at_lem
  pub burst_read : burst burst_at_lem ≡ ok (burst_name_lem, d.listed) exec_at
  pub exec_read : exec burst_name_lem exec_at ≡ ok exec_end patterns_at
  pub patterns_read : patterns env burst_name_lem patterns_at ≡ ok d.patterns us

pub parts : (ts : Toks) → Leads document ts (Parts ts)
unfolding document_up_to
parts ts =
    leads_bind _ _ λ a vs v. leads_bind _ _ λ b ws w. leads_bind _ _ λ c xs x.
    leads_bind _ _ λ ss s-end s-is. leads_bind _ _ λ ns n-end n_is. leads_bind _ _ λ tabs t-end t-is. leads_bind _ _ λ e e-end e-is.
    leads_bind _ _ λ l l-end l-is. leads_bind _ _ λ q q-end q-is. leads_bind _ _ λ ps p-end p-is.
    leads_give _ (record {
      signals_at = xs;
      groups_at = s-end;
      timing_at = n-end;
      bodies_at = t-end;
      burst_at_lem = e-end;
      exec_at = l-end;
      patterns_at = q-end;
      names = ns;
      bodied = e;
      env = for_patterns e;
      env_is = refl;
      burst_name_lem = l.0;
      opening_end = c;
      exec_end = q;
      opening_read = bind_go _ _ ts a vs v ∙ bind_go _ _ vs b ws w ∙ x;
      signals_read = s-is;
      groups_read = n_is;
      timing_read = t-is;
      bodies_read = e-is;
      burst_read = l-is;
      exec_read = q-is;
      patterns_read = once_ok _ _ q-end p-is;
    })
