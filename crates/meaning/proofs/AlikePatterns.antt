-- The Patterns of two texts that have the same words but for one block of the same name: the others differ in places alone.
use mathlib.Core.Path.{◌≡◌, refl, sym, ap, ap₂, ◌∙◌, subst}
use Prim.Native.Nat.{ℕ, zero, suc, ◌+◌, ◌<◌}
use native.Mathlib.Nat.{zero-add}
use native.Mathlib.Omega.{arith}
use mathlib.Core.Bool.{Bool, true, false, not}
use mathlib.Core.List.{List, [], ◌∷◌, ◌++◌}
use lib.ListN.{length}
use lib.Dec.{leb}
use Rattle.tokens.specs.Written.{bytes, same}
use Rattle.tokens.specs.Tokens.{Tok, Toks, stop, tok, left}
use Rattle.meaning.specs.Reader.{Res, Reader, ok, ◌>>=◌, ◌>>◌, give, refuse_if, any, due, due_of, while_f, while}
use Rattle.meaning.specs.Refusals.{too_many}
use Rattle.meaning.specs.Bounds.{patterns_most}
use Rattle.meaning.specs.Names.{name as name_due, new_name}
use Rattle.meaning.specs.Statements.{Decl, Decls, Env, declared}
use Rattle.meaning.specs.Document.{besides, pattern, over, patterns, Read, document}
use Rattle.meaning.proofs.Gives.{bind_ok, give_ok, if_ok, any_ok}
use Rattle.meaning.proofs.Once.{once_ok}
use Rattle.meaning.proofs.Others.{OthersTwins, SameWords}
use Rattle.meaning.proofs.Alike.{Border, Like, Leaves, Alike, Equal, SameWord, alike_bind, alike_give, alike_if, word_any, alike_due}
use Rattle.meaning.proofs.AlikeBlocks.{paired_length, alike_new}
use Rattle.meaning.proofs.AlikeStatements.{TwinDecls, TwinEnvs, alike_declared}
use Rattle.meaning.proofs.AlikeDocument.{document_opens, alike_opening}
use Rattle.meaning.proofs.Braces.{shut, shut_left, declared_shut}
use Rattle.meaning.proofs.SameTokens.{SameToEnd}

-- ---- one more pattern

others_more : (name : List ℕ) (ps qs : Decls) → OthersTwins name ps qs → (t u : Tok) → SameWord t u → (d c : Decl) → ((t.word ≡ name → ⊥) → TwinDecls d c)
    → OthersTwins name (ps ++ (t, d) ∷ []) (qs ++ (u, c) ∷ [])
unfolding OthersTwins
others_more name [] [] h t u e d c k = (e, k, tt)
others_more name [] (y ∷ qs) h t u e d c k = absurd h
others_more name (x ∷ ps) [] h t u e d c k = absurd h
others_more name (x ∷ ps) (y ∷ qs) h t u e d c k = (h.0, h.1, others_more name ps qs h.2 t u e d c k)

-- a pattern that was read: its word, then its name, `{` and its body
record Patterned (e : Env) (ps : Decls) (ts : Toks) (l : Decls) (us : Toks) : Type 0 where
  pub word : Tok
  pub named : Tok
  pub brace : Tok
  pub body : Decl
  pub inside : Toks
  pub stream : ts ≡ tok word (tok named (tok brace inside))
  pub read : declared e false inside ≡ ok body us
  pub more : l ≡ ps ++ (named, body) ∷ []

due_is : (w : List ℕ) (ts : Toks) (p : ℕ) (us : Toks) → due_of w ts ≡ ok p us → (t : Tok) × (ts ≡ tok t us)
unfolding due_of
due_is w ts p us e =
    let x = bind_ok any _ ts p us e in
    let y = bind_ok _ _ x.1 p us x.3 in
    (x.0, any_ok ts x.2 ∙ ap (tok x.0) (if_ok _ _ _ y.2 ∙ (give_ok y.3).1))

name_is : (ts : Toks) (t : Tok) (us : Toks) → name_due ts ≡ ok t us → ts ≡ tok t us
unfolding name_due
name_is ts t us e =
    let x = bind_ok any _ ts t us (word_any _ ts t us e) in
    let y = bind_ok _ _ x.1 t us x.3 in
    let z = give_ok y.3 in
    any_ok ts x.2 ∙ ap₂ tok z.0 (if_ok _ _ _ y.2 ∙ z.1)

new_is : {A : Type 0} (xs : List (Tok × A)) (ts : Toks) (t : Tok) (us : Toks) → new_name xs ts ≡ ok t us → ts ≡ tok t us
unfolding new_name
new_is xs ts t us e =
    let x = bind_ok _ _ ts t us e in
    let y = bind_ok _ _ x.1 t us x.3 in
    let z = give_ok y.3 in
    name_is ts x.0 x.1 x.2 ∙ ap₂ tok z.0 (if_ok _ _ _ y.2 ∙ z.1)

-- three tokens, one behind the other
three : {ts vs ws xs us : Toks} {t u v : Tok} → ts ≡ tok t vs → vs ≡ ws → ws ≡ tok u xs → xs ≡ tok v us → ts ≡ tok t (tok u (tok v us))
three a b c d = cc

patterned : (e : Env) (b : Tok) (ps : Decls) (ts : Toks) (l : Decls) (us : Toks) → pattern e b ps ts ≡ ok l us → Patterned e ps ts l us
unfolding pattern
patterned e b ps ts l us q =
    let p = bind_ok _ _ ts l us q in
    let i = bind_ok _ _ p.1 l us p.3 in
    let n = bind_ok _ _ i.1 l us i.3 in
    let z = bind_ok _ _ n.1 l us n.3 in
    let d = bind_ok _ _ z.1 l us z.3 in
    let g = give_ok d.3 in
    let w = due_is _ ts p.0 p.1 p.2 in
    let s = due_is _ n.1 z.0 z.1 z.2 in
    record {
      word = w.0;
      named = n.0;
      brace = s.0;
      body = d.0;
      inside = z.1;
      stream = three w.1 (if_ok _ _ _ i.2) (new_is _ i.1 n.0 n.1 n.2) s.1;
      read = subst (λ (v : Toks). declared e false z.1 ≡ ok d.0 v) g.1 d.2;
      more = sym g.0;
    }

-- ---- a pattern before the border, on both

module _ (name : List ℕ) (e f : Env) (h : TwinEnvs e f) (b c : Tok) where
  -- behind its first word
  abbrev rest : Env → Tok → Decls → ℕ → Reader Decls
  rest e b ps p = do
    refuse_if (leb patterns_most (length ps)) too_many p
    t ← new_name (besides b ps)
    due "{"
    d ← declared e false
    give (ps ++ (t, d) ∷ [])

  alike_rest : {B : Border} (ps qs : Decls) → OthersTwins name ps qs → (p q : ℕ) → Alike B false (OthersTwins name) (rest e b ps p) (rest f c qs q)
  unfolding bytes same
  alike_rest ps qs o p q =
      alike_bind (alike_if _ _ _ _ _ _) λ i j k. alike_bind (alike_new _ _) λ t u w. alike_bind (alike_due _ refl) λ i j k.
      alike_bind (alike_declared e f h false) λ x y z. alike_give _ _ (others_more name ps qs o t u w x y (λ n. z))

  step : (B : Border) (n : ℕ) (ts us : Toks) → Like B (suc n) ts us → (ps qs : Decls) → OthersTwins name ps qs → (l : Decls) (vs : Toks) → pattern e b ps ts ≡ ok l vs
      → (m : Decls) (ws : Toks) → pattern f c qs us ≡ ok m ws → OthersTwins name l m × Leaves B false n vs ws
  unfolding pattern
  step B n (stop i j) us k ps qs o l vs x m ws y = absurd k
  step B n (tok t ts) (stop i j) k ps qs o l vs x m ws y = absurd k
  step B n (tok t ts) (tok u us) k ps qs o l vs x m ws y =
      let p = bind_ok _ (rest e b ps) (tok t ts) l vs x in
      let q = bind_ok _ (rest f c qs) (tok u us) m ws y in
      let i : p.1 ≡ ts = (let z = (due_is _ (tok t ts) p.0 p.1 p.2).1 in cc) in
      let j : q.1 ≡ us = (let z = (due_is _ (tok u us) q.0 q.1 q.2).1 in cc) in
      (alike_rest ps qs o p.0 q.0).both n ts us k.1 l vs (subst (λ (z : Toks). rest e b ps p.0 z ≡ ok l vs) i p.3)
      m ws (subst (λ (z : Toks). rest f c qs q.0 z ≡ ok m ws) j q.3)

like_count : (B : Border) (n : ℕ) (ts us : Toks) → Like B n ts us → (left ts ≡ n + left B.first) × (left us ≡ n + left B.second)
unfolding left
like_count B zero ts us l = (ap left l.0 ∙ sym (zero-add _), ap left l.1 ∙ sym (zero-add _))
like_count B (suc n) (stop m p) us l = absurd l
like_count B (suc n) (tok t ts) (stop m p) l = absurd l
like_count B (suc n) (tok t ts) (tok u us) l = let i = like_count B n ts us l.1 in (omega arith, omega arith)

like_over : (B : Border) (n : ℕ) (ts us : Toks) → Like B n ts us → over ts ≡ over us
unfolding over
like_over B zero ts us l = ap over l.0 ∙ B.level ∙ ap over (sym l.1)
like_over B (suc n) (stop m p) us l = absurd l
like_over B (suc n) (tok t ts) (stop m p) l = absurd l
like_over B (suc n) (tok t ts) (tok u us) l = refl

-- `Pattern NAME {` at a border, and what stands behind it
pub record Opens (name : List ℕ) (ts inside : Toks) : Type 0 where
  pub word : Tok
  pub named : Tok
  pub brace : Tok
  pub is : ts ≡ tok word (tok named (tok brace inside))
  pub is_named : named.word ≡ name

opens_left : {name : List ℕ} {ts inside : Toks} → Opens name ts inside → left inside < left ts
unfolding left
opens_left o = rw o.is (omega arith)

-- the block that was edited: the pattern of that name was read, up to its matching brace
opened_read : {name : List ℕ} {e : Env} {ps : Decls} {ts inside : Toks} {l : Decls} {us : Toks} → Opens name ts inside → Patterned e ps ts l us
    → (t : Tok) × (d : Decl) × (t.word ≡ name) × (l ≡ ps ++ (t, d) ∷ []) × (shut 1 inside ≡ us)
opened_read {name} {e} {ps} {ts} {inside} {l} {us} o p =
    let z : tok p.word (tok p.named (tok p.brace p.inside)) ≡ tok o.word (tok o.named (tok o.brace inside)) = sym p.stream ∙ o.is in
    let n : p.named ≡ o.named = cc in
    let i : p.inside ≡ inside = cc in
    (p.named, p.body, ap (λ (t : Tok). t.word) n ∙ o.is_named, p.more, ap (shut 1) (sym i) ∙ declared_shut e false p.inside p.body us p.read)

-- ---- the Patterns, on both

module _ (name : List ℕ) (e f : Env) (h : TwinEnvs e f) (b c : Tok) (B : Border) (is os : Toks) (x : Opens name B.first is) (y : Opens name B.second os)
    (E : SameToEnd (shut 1 is) (shut 1 os)) where
  -- before the block, or behind it
  data Going : Toks → Toks → Type 0 where
    before : {ts us : Toks} (n : ℕ) → Like B n ts us → Going ts us
    behind : {ts us : Toks} (n : ℕ) → Like E.border n ts us → Going ts us

  record Turned (ts us : Toks) (l m : Decls) (vs ws : Toks) : Type 0 where
    pub going : Going vs ws
    pub others : OthersTwins name l m
    pub fewer : left vs < left ts
    pub also_fewer : left ws < left us

  over_going : (ts us : Toks) → Going ts us → over ts ≡ over us
  over_going ts us (before n k) = like_over B n ts us k
  over_going ts us (behind n k) = like_over E.border n ts us k

  module _ (ts us : Toks) (ps qs : Decls) (o : OthersTwins name ps qs) (l : Decls) (vs : Toks) (r : pattern e b ps ts ≡ ok l vs) (m : Decls) (ws : Toks)
      (s : pattern f c qs us ≡ ok m ws) where
    plain_turn : (D : Border) → ((n : ℕ) → Like D n vs ws → Going vs ws) → (n : ℕ) → Like D (suc n) ts us → Turned ts us l m vs ws
    plain_turn D g n k =
        let z = step name e f h b c D n ts us k ps qs o l vs r m ws s in
        let i = like_count D (suc n) ts us k in
        let j = like_count D z.1.left vs ws z.1.like in
        record { going = g z.1.left z.1.like; others = z.0; fewer = omega (arith, z.1.fewer); also_fewer = omega (arith, z.1.fewer) }

    edited_turn : ts ≡ B.first → us ≡ B.second → Turned ts us l m vs ws
    edited_turn p q =
        let v : Opens name ts is = subst (λ (z : Toks). Opens name z is) (sym p) x in
        let w : Opens name us os = subst (λ (z : Toks). Opens name z os) (sym q) y in
        let i = opened_read v (patterned e b ps ts l vs r) in
        let j = opened_read w (patterned f c qs us m ws s) in
        let g : Like E.border E.count vs ws = subst (λ (z : Toks). Like E.border E.count vs z) j.4 (subst (λ (z : Toks). Like E.border E.count z (shut 1 os)) i.4 E.like) in
        let k : OthersTwins name (ps ++ (i.0, i.1) ∷ []) (qs ++ (j.0, j.1) ∷ []) =
        others_more name ps qs o i.0 j.0 (i.2 ∙ sym j.2) i.1 j.1 (λ n. absurd (n i.2)) in
        record {
          going = behind E.count g;
          others = subst (λ (z : Decls). OthersTwins name l z) (sym j.3) (subst (λ (z : Decls). OthersTwins name z (qs ++ (j.0, j.1) ∷ [])) (sym i.3) k);
          fewer = omega (arith, opens_left v, shut_left 1 is, ap left i.4);
          also_fewer = omega (arith, opens_left w, shut_left 1 os, ap left j.4);
        }

    turn : Going ts us → Turned ts us l m vs ws
    unfolding over
    turn (before zero k) = edited_turn k.0 k.1
    turn (before (suc n) k) = plain_turn B (λ n k. before n k) n k
    turn (behind (suc n) k) = plain_turn E.border (λ n k. behind n k) n k
    turn (behind zero k) =
        let p = patterned e b ps ts l vs r in
        let z : true ≡ false = sym E.ended ∙ ap over (sym k.0 ∙ p.stream) in
        let z : ◌≡◌ {A = ℕ} 0 1 = cc in
        absurd (omega arith)

  abbrev more' : Toks → Bool
  more' ts = not (over ts)

  loop : (j k : ℕ) (ts us : Toks) → Going ts us → left ts < j → left us < k → (ps qs : Decls) → OthersTwins name ps qs
      → (l : Decls) (vs : Toks) → while_f more' (pattern e b) j ps ts ≡ ok l vs → (m : Decls) (ws : Toks) → while_f more' (pattern f c) k qs us ≡ ok m ws → OthersTwins name l m
  unfolding while_f
  loop zero k ts us g lj lk ps qs o l vs r m ws s = absurd (omega arith)
  loop (suc j) zero ts us g lj lk ps qs o l vs r m ws s = absurd (omega arith)
  loop (suc j) (suc k) ts us g lj lk ps qs o l vs r m ws s =
      by (over ts) (over us) (over_going ts us g) r s λ vs ws g u v ps qs o r s. loop j k vs ws g (omega arith) (omega arith) ps qs o l _ r m _ s
    where
      by : (p q : Bool) → p ≡ q → ◌≡◌ {A = Res Decls} (elim (not p) [ true ↦ (pattern e b ps >>= λ s. while_f more' (pattern e b) j s) ts | false ↦ ok ps ts ]) (ok l vs)
          → ◌≡◌ {A = Res Decls} (elim (not q) [ true ↦ (pattern f c qs >>= λ s. while_f more' (pattern f c) k s) us | false ↦ ok qs us ]) (ok m ws)
          → ((ps₁ qs₁ : Toks) → Going ps₁ qs₁ → left ps₁ < left ts → left qs₁ < left us → (ps qs : Decls) → OthersTwins name ps qs
          → while_f more' (pattern e b) j ps ps₁ ≡ ok l vs → while_f more' (pattern f c) k qs qs₁ ≡ ok m ws → OthersTwins name l m)
          → OthersTwins name l m
      by true false z r s ih = let z : ◌≡◌ {A = ℕ} 0 1 = cc in absurd (omega arith)
      by false true z r s ih = let z : ◌≡◌ {A = ℕ} 0 1 = cc in absurd (omega arith)
      by true true z r s ih =
          let i : ps ≡ l = cc in
          let j : qs ≡ m = cc in
          rw (← i, ← j) o
      by false false z r s ih =
          let p = bind_ok _ _ ts l vs r in
          let q = bind_ok _ _ us m ws s in
          let t = turn ts us ps qs o p.0 p.1 p.2 q.0 q.1 q.2 g in
          ih p.1 q.1 t.going t.fewer t.also_fewer p.0 q.0 t.others p.3 q.3

  -- the patterns but the one of that name differ in places alone
  patterns_others : (ts us : Toks) → Going ts us → (l : Decls) (vs : Toks) → patterns e b ts ≡ ok l vs → (m : Decls) (ws : Toks) → patterns f c us ≡ ok m ws → OthersTwins name l m
  unfolding patterns while OthersTwins
  patterns_others ts us g l vs r m ws s =
      let p = bind_ok _ _ ts l vs r in
      let q = bind_ok _ _ us m ws s in
      let t = turn ts us [] [] tt p.0 p.1 p.2 q.0 q.1 q.2 g in
      loop (suc (left p.1)) (suc (left q.1)) p.1 q.1 t.going (omega arith) (omega arith) p.0 q.0 t.others l vs p.3 m ws q.3

-- ---- the whole texts

-- what two texts have in common that were read so
pub record Agree (name : List ℕ) (d c : Read) : Type 0 where
  pub signals : length d.signals ≡ length c.signals
  pub listed : SameWords d.listed c.listed
  pub patterns : OthersTwins name d.patterns c.patterns

module _ (name : List ℕ) (B : Border) (is os : Toks) (x : Opens name B.first is) (y : Opens name B.second os) (E : SameToEnd (shut 1 is) (shut 1 os)) where
  -- THE LAW
  pub agree : (n : ℕ) (ts us : Toks) → Like B n ts us → (d : Read) (vs : Toks) → document ts ≡ ok d vs → (c : Read) (ws : Toks) → document us ≡ ok c ws → Agree name d c
  agree n ts us l d vs p c ws q =
      let i = document_opens.all ts d vs p in
      let j = document_opens.all us c ws q in
      let a = (alike_opening {B = B}).both n ts us l i.0 i.1 i.2 j.0 j.1 j.2 in
      let u = bind_ok _ _ i.1 d vs i.3 in
      let v = bind_ok _ _ j.1 c ws j.3 in
      let o = patterns_others name i.0.env j.0.env a.0.env i.0.burst j.0.burst B is os x y E i.1 j.1 (before a.1.left a.1.like)
      u.0 u.1 (once_ok _ _ i.1 u.2) v.0 v.1 (once_ok _ _ j.1 v.2) in
      let r = (give_ok u.3).0 in
      let s = (give_ok v.3).0 in
      rw (← r, ← s) (record { signals = paired_length Equal i.0.signals j.0.signals a.0.signals; listed = a.0.listed; patterns = o })
