-- Times with a sign: what was counted is told again, and one without a sign is read as a Period is, and counted.
use mathlib.Core.Path.{◌≡◌, refl, sym, ap, ◌∙◌}
use Prim.Native.Nat.{ℕ, ◌+◌, ◌-◌, ◌<◌, ◌≤◌}
use native.Mathlib.Omega.{arith}
use mathlib.Core.Bool.{Bool, true, false, not, ◌&&◌}
use mathlib.Core.List.{List, [], ◌∷◌}
use lib.Dec.{ltb, eqb}
use borrow.Author.Tests.{eqb-true, ltb-true, ltb-false}
use Rattle.tokens.specs.Written.{bytes, same}
use Rattle.tokens.specs.Bytes.{wordy, letter, digit, between}
use Rattle.tokens.specs.Tokens.{Tok, Toks, stop, tok}
use Rattle.meaning.specs.Bounds.{time_most}
use Rattle.meaning.specs.Reader.{ok, after, ◌>>=◌, give, refuse_if, any, ahead_of, ahead, due, is_word, word, if_ahead}
use Rattle.meaning.specs.Timing.{quoted, Signed, plus, minus, counted, counted_most, uncounted, time_of, signed_quoted}
use Rattle.meaning.proofs.Gives.{bind_ok, give_ok, bind_go, Gives, gives_bind, gives_after, gives_give, gives_ahead, gives_within}

-- ---- counted, and told again

pub counted_back : (t : ℕ) → counted (uncounted t) ≡ t
unfolding counted uncounted
counted_back t = by (ltb t time_most) refl
  where
    by : (w : Bool) → ltb t time_most ≡ w → counted (elim w [ true ↦ minus (time_most - t) | false ↦ plus (t - time_most) ]) ≡ t
    by true e = let h = ltb-true t time_most e in omega (arith, h)
    by false e = let h = ltb-false t time_most e in omega (arith, h)

-- the amount of ps
unfoldable pub amount : Signed → ℕ
amount (plus n) = n
amount (minus n) = n

-- it stays within the bounds of a time
pub amount_most : (t : ℕ) → t ≤ counted_most → amount (uncounted t) ≤ time_most
unfolding amount uncounted
amount_most t h = by (ltb t time_most)
  where
    by : (w : Bool) → amount (elim w [ true ↦ minus (time_most - t) | false ↦ plus (t - time_most) ]) ≤ time_most
    by true = omega arith
    by false = omega arith

pub plus_back : (n : ℕ) → uncounted (counted (plus n)) ≡ plus n
unfolding counted uncounted
plus_back n = by (ltb (time_most + n) time_most) refl
  where
    by : (w : Bool) → ltb (time_most + n) time_most ≡ w → ◌≡◌ {A = Signed} (elim w [ true ↦ minus (time_most - (time_most + n)) | false ↦ plus ((time_most + n) - time_most) ]) (plus n)
    by true e = absurd (let h = ltb-true (time_most + n) time_most e in omega (arith, h))
    by false e = let h : (time_most + n) - time_most ≡ n = omega arith in ap plus h

pub minus_back : (n : ℕ) → 0 < n → n ≤ time_most → uncounted (counted (minus n)) ≡ minus n
unfolding counted uncounted
minus_back n p q = by (ltb (time_most - n) time_most) refl
  where
    by : (w : Bool) → ltb (time_most - n) time_most ≡ w → ◌≡◌ {A = Signed} (elim w [ true ↦ minus (time_most - (time_most - n)) | false ↦ plus ((time_most - n) - time_most) ]) (minus n)
    by true e = let h : time_most - (time_most - n) ≡ n = omega arith in ap minus h
    by false e = absurd (let h = ltb-false (time_most - n) time_most e in omega (arith, h))

-- -0 is 0
pub zero_signs : counted (minus 0) ≡ counted (plus 0)
unfolding counted
zero_signs = refl

-- ---- what is read

gives_time : (sign : ℕ → Signed) → ((n : ℕ) → n ≤ time_most → counted (sign n) ≤ counted_most) → Gives (λ s. counted s ≤ counted_most) (time_of sign)
unfolding time_of
gives_time sign h = gives_after _ _ _ λ t. gives_bind (λ n. n ≤ time_most) _ _ _ (gives_within 0 time_most _ _) λ n k. gives_give _ (sign n) (h n k)

-- a time in quotes lies within the bounds
pub gives_signed : Gives (λ n. n ≤ counted_most) signed_quoted
unfolding signed_quoted counted
gives_signed =
    gives_after _ _ _ λ p.
    gives_bind (λ s. counted s ≤ counted_most) _ _ _
    (gives_ahead _ "-" _ _ (gives_after _ _ _ λ q. gives_time minus λ n k. omega arith) (gives_time plus λ n k. omega arith)) λ s h.
    gives_after _ _ _ λ q. gives_give _ (counted s) h

-- ---- without a sign

-- a word is no `-`
no_sign : (w : List ℕ) → is_word w ≡ true → same w (bytes "-") ≡ false
unfolding is_word same bytes wordy letter digit between
no_sign [] h = refl
no_sign (b ∷ w) h = by (eqb b 45) refl
  where
    by : (x : Bool) → eqb b 45 ≡ x → x && same w [] ≡ false
    by false e = refl
    by true e = let q : b ≡ 45 = eqb-true b 45 e in let z : ◌≡◌ {A = Bool} false true = sym (ap wordy q) ∙ h in let y : ◌≡◌ {A = ℕ} 0 1 = cc in absurd (omega arith)

word_ahead : (ts : Toks) (t : Tok) (us : Toks) → word ts ≡ ok t us → ahead "-" ts ≡ false
unfolding word ◌>>=◌ after any refuse_if give ahead_of
word_ahead (stop n p) t us e = let z : ◌≡◌ {A = ℕ} 0 1 = cc in absurd (omega arith)
word_ahead (tok x ts) t us e = by (is_word x.word) refl e
  where
    by : (b : Bool) → is_word x.word ≡ b → after (refuse_if (not b) 4 x.at ts) (λ u. give x) ≡ ok t us → same x.word (bytes "-") ≡ false
    by true h e = no_sign x.word h
    by false h e = let z : ◌≡◌ {A = ℕ} 0 1 = cc in absurd (omega arith)

-- THE LAW
pub read_unsigned : (ts : Toks) (n : ℕ) (us : Toks) → quoted 0 ts ≡ ok n us → signed_quoted ts ≡ ok (time_most + n) us
unfolding quoted signed_quoted time_of if_ahead give counted
read_unsigned ts n us e =
    let a = bind_ok _ _ ts n us e in
    let b = bind_ok _ _ a.1 n us a.3 in
    let c = bind_ok _ _ b.1 n us b.3 in
    let d = bind_ok _ _ c.1 n us c.3 in
    let g = give_ok d.3 in
    let one : time_of plus a.1 ≡ ok (plus c.0) c.1 = bind_go _ _ a.1 b.0 b.1 b.2 ∙ bind_go _ _ b.1 c.0 c.1 c.2 in
    let sign : if_ahead "-" (due "-" >>= λ p. time_of minus) (time_of plus) a.1 ≡ ok (plus c.0) c.1 =
    ap (λ (x : Bool). elim x [ true ↦ (due "-" >>= λ p. time_of minus) a.1 | false ↦ time_of plus a.1 ]) (word_ahead a.1 b.0 b.1 b.2) ∙ one in
    bind_go _ _ ts a.0 a.1 a.2 ∙ bind_go _ _ a.1 (plus c.0) c.1 sign ∙ bind_go _ _ c.1 d.0 d.1 d.2
    ∙ ap (λ (m : ℕ). ok (time_most + m) d.1) g.0 ∙ ap (ok (time_most + n)) g.1
