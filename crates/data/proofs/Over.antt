-- Characters over the front of a buffer: one store is one character more, a part that is written several, and past the buffer's end nothing changes.
use Prim.Native.Nat.{ℕ, zero, suc, ◌+◌, ◌-◌, ◌≤◌, ◌<◌, min}
use native.Mathlib.Omega.{arith}
use native.Mathlib.Numerals.{add-one}
use mathlib.Core.Path.{◌≡◌, refl, sym, ap, ap₂, ◌∙◌, subst}
use mathlib.Core.Bool.{Bool, true, false}
use mathlib.Core.List.{List, [], ◌∷◌, ◌++◌, append_assoc, append-nil}
use lib.Dec.{leb}
use borrow.Author.Tests.{leb-true, leb-false}
use lib.ListN.{length, get_or, take, drop, set, length-append, length-set, length-take, length-drop, take-append-drop}
use lib.Seq.{take-suc, take_all, drop-drop, length-take-le}
use borrow.Rule.Slice.PartMut.{put_mid, same_len_mid}
use Rattle.data.specs.Filled.{count_most, over, Holds, Adds}

pub over_length : (cs e : List ℕ) → length (over cs e) ≡ length e
unfolding over
over_length [] e = refl
over_length (c ∷ cs) [] = refl
over_length (c ∷ cs) (b ∷ e) = ap suc (over_length cs e)

pub over_set : (cs e : List ℕ) (x : ℕ) → set (over cs e) (length cs) x ≡ over (cs ++ x ∷ []) e
unfolding over
over_set [] [] x = refl
over_set [] (b ∷ e) x = refl
over_set (c ∷ cs) [] x = refl
over_set (c ∷ cs) (b ∷ e) x = ap (λ (l : List ℕ). c ∷ l) (over_set cs e x)

over_past : (cs ds e : List ℕ) → length e ≤ length cs → over (cs ++ ds) e ≡ over cs e
unfolding over
over_past [] [] [] h = refl
over_past [] (d ∷ ds) [] h = refl
over_past [] ds (b ∷ e) h = absurd (omega arith)
over_past (c ∷ cs) ds [] h = refl
over_past (c ∷ cs) ds (b ∷ e) h = ap (λ (l : List ℕ). c ∷ l) (over_past cs ds e (omega arith))

pub over_front : (cs e : List ℕ) → length cs ≤ length e → take (length cs) (over cs e) ≡ cs
unfolding over
over_front [] e h = refl
over_front (c ∷ cs) [] h = absurd (omega arith)
over_front (c ∷ cs) (b ∷ e) h = ap (λ (l : List ℕ). c ∷ l) (over_front cs e (omega arith))

-- they stand before what was there behind them
pub over_fits : (cs e : List ℕ) → length cs ≤ length e → over cs e ≡ cs ++ drop (length cs) e
unfolding over
over_fits [] e h = refl
over_fits (c ∷ cs) [] h = absurd (omega arith)
over_fits (c ∷ cs) (b ∷ e) h = ap (λ (l : List ℕ). c ∷ l) (over_fits cs e (omega arith))

pub over_rest : (i : ℕ) (cs e : List ℕ) → length cs ≤ i → drop i (over cs e) ≡ drop i e
unfolding over
over_rest i [] e h = refl
over_rest i (c ∷ cs) [] h = refl
over_rest zero (c ∷ cs) (b ∷ e) h = absurd (omega arith)
over_rest (suc i) (c ∷ cs) (b ∷ e) h = over_rest i cs e (omega arith)

-- a part of the buffer behind them is written
over_put : (cs t e : List ℕ) (n k : ℕ) → n ≡ length cs → k ≡ length t → n + k ≤ length e → put_mid n k (over cs e) t ≡ over (cs ++ t) e
over_put cs t e n k p q h =
    let front = ap (λ (i : ℕ). take i (over cs e)) p ∙ over_front cs e (omega arith) in
    let rest = drop-drop k n (over cs e) ∙ over_rest (n + k) cs e (omega arith) in
    let l : length (cs ++ t) ≡ n + k = omega (arith, length-append cs t) in
    ap₂ (λ (a b : List ℕ). a ++ (t ++ b)) front rest ∙ sym (append_assoc cs t (drop (n + k) e))
    ∙ sym (over_fits (cs ++ t) e (omega arith) ∙ ap (λ (i : ℕ). (cs ++ t) ++ drop i e) l)

-- ---- i of the characters ds are put behind n

pub record Wrote (before : List ℕ) (n : ℕ) (ds : List ℕ) (i : ℕ) (behind : List ℕ) : Type 0 where
  pub kept : length behind ≡ length before
  pub wrote : (entry cs : List ℕ) → Holds entry before n cs → behind ≡ over (cs ++ take i ds) entry

module _ {before : List ℕ} {n : ℕ} {ds : List ℕ} where
  pub wrote_none : Wrote before n ds 0 before
  wrote_none = record { kept = refl; wrote = λ entry cs z. rw append-nil z.front }

  pub wrote_more : {i : ℕ} {behind : List ℕ} {x : ℕ} → Wrote before n ds i behind → n + i < length before → length before < count_most → i < length ds
      → x ≡ get_or ds i 0 → Wrote before n ds (i + 1) (set behind (n + i) x)
  wrote_more {i} {behind} {x} w r b h g = record { kept = rw length-set w.kept; wrote = one }
    where
      one : (entry cs : List ℕ) → Holds entry before n cs → set behind (n + i) x ≡ over (cs ++ take (i + 1) ds) entry
      one entry cs z =
          let l : n + i ≡ length (cs ++ take i ds) = omega (arith, length-append cs (take i ds), length-take-le i ds (omega arith), z.count) in
          let t : take (i + 1) ds ≡ take i ds ++ x ∷ [] = rw (add-one, g) (take-suc ds i 0 h) in
          rw (w.wrote entry cs z, l, t)
          (over_set (cs ++ take i ds) entry x ∙ ap (λ (u : List ℕ). over u entry) (append_assoc cs (take i ds) (x ∷ [])))

  pub wrote_part : {i k : ℕ} {t : List ℕ} → k ≡ i → t ≡ take i ds → i ≤ length ds → n + i ≤ length before → length before < count_most
      → Wrote before n ds i (put_mid n k before t)
  wrote_part {i} {k} {t} e p h r b =
      let l : length t ≡ i = ap length p ∙ length-take-le i ds h in
      record {
        kept = same_len_mid n k before t (omega (arith, length-take k (drop n before), length-drop n before));
        wrote = λ entry cs z. (
            let as_long : length entry ≡ length before = sym (ap length z.front ∙ over_length cs entry) in
            ap (λ (u : List ℕ). put_mid n k u t) z.front ∙ over_put cs t entry n k (omega (arith, z.count)) (omega arith) (omega arith)
            ∙ ap (λ (u : List ℕ). over (cs ++ u) entry) p
            );
      }

  -- as many as fit
  pub wrote_all : {i m : ℕ} {behind : List ℕ} → Wrote before n ds i behind → i ≡ min (length ds) (length before - n) → length before < count_most
      → m ≡ min count_most (n + length ds) → Adds before n ds behind m
  wrote_all {i} {m} {behind} w h b g =
      record {
        kept = w.kept;
        adds = λ entry cs z. record {
          count = omega (arith, length-append cs ds, z.count);
          front = w.wrote entry cs z ∙ all entry cs z;
        };
      }
    where
      all : (entry cs : List ℕ) → Holds entry before n cs → over (cs ++ take i ds) entry ≡ over (cs ++ ds) entry
      all entry cs z = by (leb (length ds) i) refl
        where
          by : (t : Bool) → leb (length ds) i ≡ t → over (cs ++ take i ds) entry ≡ over (cs ++ ds) entry
          by true e = ap (λ (u : List ℕ). over (cs ++ u) entry) (take_all i ds (leb-true (length ds) i e))
          by false e =
              let k : i < length ds = leb-false (length ds) i e in
              let l : length entry ≡ length before = sym (ap length z.front ∙ over_length cs entry) in
              let p : length entry ≤ length (cs ++ take i ds) = omega (arith, length-append cs (take i ds), length-take-le i ds (omega arith), z.count) in
              sym (over_past (cs ++ take i ds) (drop i ds) entry p)
              ∙ ap (λ (u : List ℕ). over u entry) (append_assoc cs (take i ds) (drop i ds) ∙ ap (λ (u : List ℕ). cs ++ u) (take-append-drop i ds))

-- ---- several of them

module _ {before : List ℕ} {n : ℕ} where
  pub adds_none : Adds before n [] before n
  adds_none = record { kept = refl; adds = λ entry cs z. rw append-nil z }

  -- the count does not depend on what the buffer holds
  pub adds_count : {ds behind : List ℕ} {m k : ℕ} → Adds before n ds behind m → k ≡ min count_most (n + length ds) → Adds before n ds behind k
  adds_count {ds} a e =
      record {
        kept = a.kept;
        adds = λ entry cs z. record { count = omega (arith, length-append cs ds, z.count); front = (a.adds entry cs z).front };
      }

  pub adds_same : {ds es behind : List ℕ} {m : ℕ} → Adds before n ds behind m → ds ≡ es → Adds before n es behind m
  adds_same {ds} {es} {behind} {m} a e = subst (λ (l : List ℕ). Adds before n l behind m) e a

-- characters that have no room change nothing, and are counted
pub adds_past : {before : List ℕ} {n : ℕ} {ds behind : List ℕ} {m k : ℕ} (es : List ℕ) → Adds before n ds behind m → length behind ≤ m → length before < count_most
    → k ≡ min count_most (m + length es) → Adds before n (ds ++ es) behind k
adds_past {before} {n} {ds} {behind} {m} {k} es a full b e =
    record { kept = a.kept; adds = λ entry cs z. subst (Holds entry behind k) (append_assoc cs ds es) (one entry (cs ++ ds) (a.adds entry cs z)) }
  where
    one : (entry cs : List ℕ) → Holds entry behind m cs → Holds entry behind k (cs ++ es)
    one entry cs z =
        let l : length behind ≡ length entry = ap length z.front ∙ over_length cs entry in
        record { count = omega (arith, length-append cs es, z.count); front = z.front ∙ sym (over_past cs es entry (omega (arith, z.count, a.kept))) }

pub holds_none : (entry : List ℕ) → Holds entry entry 0 []
unfolding over
holds_none entry = record { count = refl; front = refl }
