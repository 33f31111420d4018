-- Bodies, PatternBurst and PatternExec on two streams with the same words up to a border; and what stands before the Patterns of a text.
use mathlib.Core.Path.{◌≡◌, refl, ◌∙◌}
use Prim.Native.Nat.{ℕ}
use mathlib.Core.Bool.{true, false}
use mathlib.Core.List.{List, [], ◌∷◌, ◌++◌}
use Rattle.tokens.specs.Written.{bytes, same}
use Rattle.tokens.specs.Tokens.{Tok, Toks}
use Rattle.meaning.specs.Reader.{Reader, ok, ◌>>=◌, ◌>>◌, give, due, option}
use Rattle.meaning.specs.Labels.{each_once}
use Rattle.meaning.specs.Signals.{Names, signals}
use Rattle.meaning.specs.Groups.{groups}
use Rattle.meaning.specs.Timing.{Tables, timing}
use Rattle.meaning.specs.Statements.{Decls, Env, for_patterns}
use Rattle.meaning.specs.Document.{one_body, one_macro, one_procedure, macro_defs, procedures, bodies, list_entry, burst, exec, patterns, Read, document, document_up_to}
use Rattle.meaning.proofs.Gives.{bind_ok, bind_go}
use Rattle.meaning.proofs.Others.{SameWords}
use Rattle.meaning.proofs.Alike.{Border, like_ahead, Alike, Anyhow, Equal, SameWord, alike_bind, alike_give, alike_if, alike_due, alike_test, alike_option, alike_until}
use Rattle.meaning.proofs.AlikeBlocks.{Paired, paired_more, alike_name, alike_new, alike_old, alike_signals, alike_groups, alike_timing}
use Rattle.meaning.proofs.AlikeStatements.{TwinDecls, TwinEnvs, alike_declared}

words_more : (ts us : List Tok) → SameWords ts us → (t u : Tok) → SameWord t u → SameWords (ts ++ t ∷ []) (us ++ u ∷ [])
unfolding SameWords
words_more [] [] h t u e = (e, tt)
words_more [] (x ∷ us) h t u e = absurd h
words_more (x ∷ ts) [] h t u e = absurd h
words_more (x ∷ ts) (y ∷ us) h t u e = (h.0, words_more ts us h.1 t u e)

-- ---- what stands before the Patterns

pub record Opened : Type 0 where
  pub signals : Names
  pub tables : Tables
  pub env : Env
  pub burst : Tok
  pub listed : List Tok

abbrev pub opening : Reader Opened
opening = do
  due "STIL"
  due "1.0"
  due ";"
  ss ← signals
  ns ← option "SignalGroups" groups ss
  tabs ← timing ns
  e ← bodies (record { names = ns; tables = tabs; macros = []; procs = []; pattern = false })
  b ← burst
  exec b.0
  give (record { signals = ss; tables = tabs; env = for_patterns e; burst = b.0; listed = b.1 })

-- and then they do
abbrev pub onward : Opened → Reader Read
onward x = each_once x.burst.word (patterns x.env x.burst) >>= λ ps. give (record { signals = x.signals; tables = x.tables; listed = x.listed; patterns = ps })

-- where m answers, k does, and `rest` from there on
pub record Splits {A D : Type 0} (m : Reader D) (k : Reader A) (rest : A → Reader D) : Type 0 where
  pub all : (ts : Toks) (d : D) (us : Toks) → m ts ≡ ok d us → (x : A) × (vs : Toks) × (k ts ≡ ok x vs) × (rest x vs ≡ ok d us)

splits_bind : {A D C : Type 0} (m : Reader C) (f : C → Reader D) (g : C → Reader A) (rest : A → Reader D) → ((c : C) → Splits (f c) (g c) rest) → Splits (m >>= f) (m >>= g) rest
splits_bind m f g rest h = record {
  all = λ ts d us e. (
      let i = bind_ok m f ts d us e in
      let j = (h i.0).all i.1 d us i.3 in
      (j.0, j.1, bind_go m g ts i.0 i.1 i.2 ∙ j.2, j.3));
}

splits_give : {A D : Type 0} (x : A) (rest : A → Reader D) → Splits (rest x) (give x) rest
unfolding give
splits_give x rest = record { all = λ ts d us e. (x, ts, refl, e) }

pub document_opens : Splits document opening onward
unfolding document_up_to
document_opens =
    splits_bind _ _ _ onward λ a. splits_bind _ _ _ onward λ a. splits_bind _ _ _ onward λ a. splits_bind _ _ _ onward λ ss. splits_bind _ _ _ onward λ ns.
    splits_bind _ _ _ onward λ tabs. splits_bind _ _ _ onward λ e. splits_bind _ _ _ onward λ b. splits_bind _ _ _ onward λ q. splits_give _ onward

-- on two streams
pub record TwinsOpened (x y : Opened) : Type 0 where
  pub signals : Paired Equal x.signals y.signals
  pub env : TwinEnvs x.env y.env
  pub listed : SameWords x.listed y.listed

module _ {B : Border} where
  alike_body : (e f : Env) → TwinEnvs e f → (n m : ℕ) (xs ys : Decls) → Paired TwinDecls xs ys → Alike B false (Paired TwinDecls) (one_body e n xs) (one_body f m ys)
  unfolding one_body bytes same
  alike_body e f h n m xs ys r =
      alike_bind (alike_new xs ys) λ t u w. alike_bind (alike_if _ _ _ _ _ _) λ i j k. alike_bind (alike_due _ refl) λ i j k.
      alike_bind (alike_declared e f h true) λ d c p. alike_give _ _ (paired_more TwinDecls xs ys r t u w d c p)

  alike_macro : (e f : Env) → TwinEnvs e f → Alike B false TwinEnvs (one_macro e) (one_macro f)
  unfolding one_macro
  alike_macro e f h =
      alike_bind (alike_body e f h _ _ _ _ h.macros) λ xs ys r. alike_give _ _ (record { names = h.names; tables = h.tables; macros = r; procs = h.procs })

  alike_procedure : (e f : Env) → TwinEnvs e f → Alike B false TwinEnvs (one_procedure e) (one_procedure f)
  unfolding one_procedure
  alike_procedure e f h =
      alike_bind (alike_body e f h _ _ _ _ h.procs) λ xs ys r. alike_give _ _ (record { names = h.names; tables = h.tables; macros = h.macros; procs = r })

  alike_macros : (e f : Env) → TwinEnvs e f → Alike B false TwinEnvs (macro_defs e) (macro_defs f)
  unfolding macro_defs bytes same
  alike_macros e f h = alike_bind (alike_due _ refl) λ i j k. alike_bind (alike_due _ refl) λ i j k. alike_until "}" refl alike_macro e f h

  alike_procedures : (e f : Env) → TwinEnvs e f → Alike B false TwinEnvs (procedures e) (procedures f)
  unfolding procedures bytes same
  alike_procedures e f h = alike_bind (alike_due _ refl) λ i j k. alike_bind (alike_due _ refl) λ i j k. alike_until "}" refl alike_procedure e f h

  alike_bodies : (e f : Env) → TwinEnvs e f → Alike B false TwinEnvs (bodies e) (bodies f)
  unfolding bodies
  alike_bodies e f h =
      alike_test (like_ahead B (bytes "MacroDefs"))
      (alike_bind (alike_macros e f h) λ x y r. alike_option _ _ _ _ _ (alike_procedures x y r) r)
      (alike_bind (alike_option _ _ _ _ _ (alike_procedures e f h) h) λ x y r. alike_option _ _ _ _ _ (alike_macros x y r) r)

  alike_listed : (xs ys : List Tok) → SameWords xs ys → Alike B false SameWords (list_entry xs) (list_entry ys)
  unfolding list_entry bytes same
  alike_listed xs ys h =
      alike_bind alike_name λ t u e. alike_bind (alike_if _ _ _ _ _ _) λ i j k. alike_bind (alike_due _ refl) λ i j k. alike_give _ _ (words_more xs ys h t u e)

  alike_burst : Alike B false (λ (x y : Tok × List Tok). SameWord x.0 y.0 × SameWords x.1 y.1) burst burst
  unfolding burst bytes same SameWords
  alike_burst =
      alike_bind (alike_due _ refl) λ i j k. alike_bind alike_name λ t u e. alike_bind (alike_due _ refl) λ i j k. alike_bind (alike_due _ refl) λ i j k. alike_bind (alike_due _ refl) λ i j k.
      alike_bind (alike_until "}" refl alike_listed [] [] tt) λ xs ys h. alike_bind (alike_due _ refl) λ i j k. alike_give _ _ (e, h)

  alike_exec : (b c : Tok) → SameWord b c → Alike B false Anyhow (exec b) (exec c)
  unfolding exec bytes same
  alike_exec b c e =
      alike_bind (alike_due _ refl) λ i j k. alike_bind (alike_due _ refl) λ i j k. alike_bind (alike_due _ refl) λ i j k.
      alike_bind (alike_old Anyhow ((b, 0) ∷ []) ((c, 0) ∷ []) ((e, tt), tt)) λ i j k. alike_bind (alike_due _ refl) λ i j k. alike_due _ refl

  pub alike_opening : Alike B false TwinsOpened opening opening
  unfolding bytes same
  alike_opening =
      alike_bind (alike_due _ refl) λ i j k. alike_bind (alike_due _ refl) λ i j k. alike_bind (alike_due _ refl) λ i j k.
      alike_bind alike_signals λ ss rs h. alike_bind (alike_option "SignalGroups" _ _ ss rs (alike_groups ss rs h) h) λ ns ms n. alike_bind (alike_timing ns ms n) λ ta tb r.
      alike_bind (alike_bodies _ _ (record { names = n; tables = r; macros = tt; procs = tt })) λ e f w. alike_bind alike_burst λ b c l. alike_bind (alike_exec _ _ l.0) λ i j k.
      alike_give _ _ (record {
        signals = h;
        env = record { names = w.names; tables = w.tables; macros = w.macros; procs = w.procs };
        listed = l.1;
      })
