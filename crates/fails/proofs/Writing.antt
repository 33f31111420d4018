-- The writing pass: answers at the fronts of three rows, one behind the other.
use Prim.Native.Nat.{ℕ, suc, ◌+◌, ◌-◌, ◌≤◌, ◌<◌}
use native.Mathlib.Omega.{arith}
use mathlib.Core.Path.{◌≡◌, refl, sym, ap, ◌∙◌, subst}
use mathlib.Core.Bool.{Bool, true, false, not, ◌&&◌, ◌||◌}
use mathlib.Core.Option.{Option, none, some}
use Rattle.std.specs.Prelude.{Option as Maybe, Some, None}
use Rattle.std.specs.Option.{unwrap_or}
use mathlib.Core.List.{List, [], ◌∷◌, ◌++◌, append_assoc, append-nil}
use lib.Dec.{leb, ltb}
use lib.ListN.{length, set, length-append}
use borrow.Author.Tests.{lt-leb, leb-false, le-ltb, ltb-false}
use Rattle.tokens.specs.Written.{bytes}
use Rattle.tokens.specs.Tokens.{Tok}
use Rattle.tokens.proofs.Bools.{neither}
use Rattle.meaning.specs.Bounds.{cycles_most}
use Rattle.meaning.specs.Reader.{due, ahead_of, while}
use Rattle.meaning.specs.Meaning.{given}
use Rattle.words.specs.Cursor.{span, ahead, stream, Stands, alive, Goes}
use Rattle.words.specs.Values.{told, value_of}
use Rattle.words.specs.declared.Cursor.{Cursor}
use Rattle.words.proofs.Loops.{Leads, turned, over, ends}
use Rattle.reports.specs.Report.{Signals, Offset, offset, one_more, head, Record, one_record, Fail, offsets_of, answered_of, answered_all}
use Rattle.reports.specs.Read.{earlier, first_outside}
use Rattle.reports.proofs.Answers.{both}
use Rattle.reports.proofs.Counting.{fails_from, answered_by}
use Rattle.reports.proofs.Passing.{takes_more, takes_record, more_goes}
use Rattle.fails.specs.Fails.{Rows, in_front}
use Rattle.fails.specs.Written.{Stand, Roomy, Adds, PutsOne, Within, WritesOffsets, WritesRecord, Writes}
use Rattle.fails.specs.declared.Wrote.{Wrote}
use Rattle.fails.proofs.Judging.{answered_unknown, answered_known, record_goes, answered_last, reads_on, ended}

-- ---- a row

module _ (f : Fail → ℕ) where
  front_long : (gs : List Fail) (row : List ℕ) → length gs ≤ length row → length (in_front f gs row) ≡ length row
  unfolding in_front
  front_long [] row h = refl
  front_long (g ∷ gs) [] h = absurd (omega arith)
  front_long (g ∷ gs) (a ∷ row) h = ap suc (front_long gs row (omega arith))

  -- one answer more
  front_more : (gs : List Fail) (x : Fail) (row : List ℕ) → length gs < length row → set (in_front f gs row) (length gs) (f x) ≡ in_front f (gs ++ x ∷ []) row
  unfolding in_front
  front_more gs x [] h = absurd (omega arith)
  front_more [] x (a ∷ row) h = refl
  front_more (g ∷ gs) x (a ∷ row) h = ap (λ (l : List ℕ). f g ∷ l) (front_more gs x row (omega arith))

-- ---- cycles

module _ (a b : ℕ) where
  pub too_far : (ltb cycles_most a || ltb cycles_most b) ≡ true → a + b ≤ cycles_most → 0 ≡ a + b
  too_far e h =
      let no : false ≡ true = sym (rw (le-ltb cycles_most a (omega arith), le-ltb cycles_most b (omega arith))) ∙ e in
      let z : ◌≡◌ {A = ℕ} 0 1 = cc in
      absurd (omega arith)

  pub near : (ltb cycles_most a || ltb cycles_most b) ≡ false → a + b ≤ cycles_most + cycles_most
  near e = let h = neither (ltb cycles_most a) (ltb cycles_most b) e in omega (arith, ltb-false cycles_most a h.0, ltb-false cycles_most b h.1)

-- ---- three rows

-- where each row has room
pub there : (c s l at : ℕ) → (leb c at || leb s at || leb l at) ≡ false → (at < c) × (at < s) × (at < l)
there c s l at e =
    let h = neither (leb c at || leb s at) (leb l at) e in
    let k = neither (leb c at) (leb s at) h.0 in
    (leb-false c at k.0, leb-false s at k.1, leb-false l at h.1)

roomy_less : {m n : ℕ} {b : Rows} → Roomy n b → m ≤ n → Roomy m b
roomy_less r h = record { cycles = omega (arith, r.cycles); signals = omega (arith, r.signals); letters = omega (arith, r.letters) }

module _ {at : ℕ} (x : Fail) {cycles signals letters : List ℕ} where
  -- the rows have no room: then none was promised
  pub puts_none : (leb (length cycles) at || leb (length signals) at || leb (length letters) at) ≡ true → PutsOne at x cycles signals letters cycles signals letters at
  puts_none e = record { all = λ b gs n s r. absurd (by b gs n s r) }
    where
      by : (b : Rows) (gs : List Fail) → length gs ≡ at → Stand b gs cycles signals letters → Roomy (at + 1) b → ⊥
      by b gs n s r =
          let c = ap length s.cycles_are ∙ front_long (λ y. y.cycle) gs b.cycles (omega (arith, r.cycles)) in
          let d = ap length s.signals_are ∙ front_long (λ y. y.signal) gs b.signals (omega (arith, r.signals)) in
          let l = ap length s.letters_are ∙ front_long (λ y. y.letter) gs b.letters (omega (arith, r.letters)) in
          let no : false ≡ true = sym (rw (lt-leb (length cycles) at (omega (arith, c, r.cycles)), lt-leb (length signals) at (omega (arith, d, r.signals)), lt-leb (length letters) at (omega (arith, l, r.letters)))) ∙ e in
          let z : ◌≡◌ {A = ℕ} 0 1 = cc in
          absurd (omega arith)

  pub puts_one : PutsOne at x cycles signals letters (set cycles at x.cycle) (set signals at x.signal) (set letters at x.letter) (at + 1)
  puts_one = record { all = λ b gs n s r. (refl, record { cycles_are = one (λ y. y.cycle) gs b.cycles n s.cycles_are r.cycles; signals_are = one (λ y. y.signal) gs b.signals n s.signals_are r.signals; letters_are = one (λ y. y.letter) gs b.letters n s.letters_are r.letters }) }
    where
      one : (f : Fail → ℕ) (gs : List Fail) (row : List ℕ) → length gs ≡ at → {now : List ℕ} → now ≡ in_front f gs row → at + 1 ≤ length row → set now at (f x) ≡ in_front f (gs ++ x ∷ []) row
      one f gs row n {now} e r =
          ap (λ (l : List ℕ). set l at (f x)) e ∙ ap (λ (k : ℕ). set (in_front f gs row) k (f x)) (sym n) ∙ front_more f gs x row (omega (arith, n))

-- ---- answers behind others

pub adds_none : {at : ℕ} {c s l : List ℕ} → Adds [] at c s l c s l at
adds_none {at} {c} {s} {l} = record { all = λ b gs n t r. (omega arith, subst (λ (xs : List Fail). Stand b xs c s l) (sym (append-nil gs)) t) }

module _ {at : ℕ} {c s l c' s' l' : List ℕ} where
  pub adds_both : {c'' s'' l'' : List ℕ} {fs gs : List Fail} {m r : ℕ} → Adds fs at c s l c' s' l' m → Adds gs m c' s' l' c'' s'' l'' r → Adds (fs ++ gs) at c s l c'' s'' l'' r
  adds_both {c''} {s''} {l''} {fs} {gs} {m} {r} x y = record {
    all = λ b hs n t o. (
        let long = length-append fs gs in
        let u = x.all b hs n t (roomy_less o (omega (arith, long))) in
        let v = y.all b (hs ++ fs) (length-append hs fs ∙ omega (arith, n, u.0)) u.1 (roomy_less o (omega (arith, long, u.0))) in
        (omega (arith, long, u.0, v.0), subst (λ (xs : List Fail). Stand b xs c'' s'' l'') (append_assoc hs fs gs) v.1));
  }

  pub adds_same : {fs gs : List Fail} {r : ℕ} → fs ≡ gs → Adds fs at c s l c' s' l' r → Adds gs at c s l c' s' l' r
  adds_same {r = r} e x = subst (λ (xs : List Fail). Adds xs at c s l c' s' l' r) e x

-- ---- offsets

within_front : (start : ℕ) (l : List Offset) (o : Offset) → Within start (l ++ o ∷ []) → Within start l × (start + o.n ≤ cycles_most)
within_front start [] o h = (tt, h.0)
within_front start (x ∷ l) o h = let k = within_front start l o h.1 in ((h.0, k.0), k.1)

fails_append : (start s : ℕ) (l : List Offset) (o : Offset) → fails_from start s (l ++ o ∷ []) ≡ fails_from start s l ++ record { cycle = start + o.n; signal = s; letter = o.letter } ∷ []
unfolding fails_from
fails_append start s [] o = refl
fails_append start s (x ∷ l) o = ap (λ (fs : List Fail). record { cycle = start + x.n; signal = s; letter = x.letter } ∷ fs) (fails_append start s l o)

module _ (report : List ℕ) (start signal at : ℕ) (c₁ s₁ l₁ : List ℕ) where
  -- the offsets so far are answered
  pub record Offsets (close : List ℕ) (d₀ d : Cursor) (cycles signals letters : List ℕ) (n : ℕ) : Type 0 where
    pub so_far : List Offset
    pub leads : Leads report d₀ (while (λ vs. not (ahead_of close vs)) one_more []) d (while (λ vs. not (ahead_of close vs)) one_more so_far)
    pub adds : Within start so_far → Adds (fails_from start signal so_far) at c₁ s₁ l₁ cycles signals letters n

  pub offsets_none : {close : List ℕ} {d : Cursor} → Offsets close d d c₁ s₁ l₁ at
  unfolding fails_from
  offsets_none = record { so_far = []; leads = record { same = refl }; adds = λ w. adds_none }

  pub offsets_more : {close : List ℕ} {d₀ d d' : Cursor} {c s l c' s' l' : List ℕ} {n n' cycle : ℕ} {o : Offset} {b : Bool} → Offsets close d₀ d c s l n
      → b ≡ (alive d && not (ahead_of close (stream report d))) → b ≡ true → Goes report d offset d' o → (start + o.n ≤ cycles_most → cycle ≡ start + o.n)
      → PutsOne n (record { cycle = cycle; signal = signal; letter = o.letter }) c s l c' s' l' n' → Offsets close d₀ d' c' s' l' n'
  offsets_more {c = c} {s} {l} {c'} {s'} {l'} {n} {n'} {cycle} {o} k e h g w p = record {
    so_far = k.so_far ++ o ∷ [];
    leads = turned _ one_more takes_more k.leads e h (more_goes g k.so_far);
    adds = λ v. (
        let i = within_front start k.so_far o v in
        let q = subst (λ (m : ℕ). PutsOne n (record { cycle = m; signal = signal; letter = o.letter }) c s l c' s' l' n') (w i.1) p in
        adds_same (sym (fails_append start signal k.so_far o)) (adds_both (k.adds i.0) q));
  }

  pub offsets_all : {d₀ d r : Cursor} {c s l : List ℕ} {n p : ℕ} {b : Bool} → Offsets (bytes ";") d₀ d c s l n → b ≡ (alive d && not (ahead_of (bytes ";") (stream report d))) → b ≡ false
      → Goes report d (due ";") r p → WritesOffsets report d₀ start signal at c₁ s₁ l₁ c s l (record { cursor = r; at = n })
  offsets_all k e h g = record { list = k.so_far; goes = ends ";" one_more [] (over _ one_more takes_more k.leads e h) g; adds = k.adds }

-- ---- one record

answered_none : (o : Option ℕ) {fs gs : List Fail} → answered_by o fs ≡ given gs → (o ≡ none) × (fs ≡ gs)
answered_none none e = (refl, cc)
answered_none (some p) e = let z : ◌≡◌ {A = ℕ} 0 1 = cc in absurd (omega arith)

-- none falls outside: each counts to a cycle of the pattern
inside : (left : ℕ) (os : List Offset) → first_outside left os ≡ none → (start : ℕ) → start + left ≤ cycles_most → Within start os
unfolding first_outside earlier
inside left [] e start h = tt
inside left (o ∷ os) e start h = by (leb left o.n) refl e (λ f. inside left os f start h)
  where
    by : (x : Bool) → leb left o.n ≡ x → earlier (told x o.at) (first_outside left os) ≡ none → (first_outside left os ≡ none → Within start os) → (start + o.n ≤ cycles_most) × Within start os
    by true q f ih = let z : ◌≡◌ {A = ℕ} 0 1 = cc in absurd (omega arith)
    by false q f ih = (omega (arith, leb-false left o.n q), ih f)

-- where something is answered, a cycle is left
some_left : (left : ℕ) (o : Offset) (os : List Offset) → first_outside left (o ∷ os) ≡ none → 0 < left
unfolding first_outside earlier
some_left left o os e = by (leb left o.n) refl e
  where
    by : (x : Bool) → leb left o.n ≡ x → earlier (told x o.at) (first_outside left os) ≡ none → 0 < left
    by true q f = let z : ◌≡◌ {A = ℕ} 0 1 = cc in absurd (omega arith)
    by false q f = omega (arith, leb-false left o.n q)

-- a record's offsets, or that there are none
module _ (start signal : ℕ) (t : Tok) {at m : ℕ} {c₁ s₁ l₁ c₂ s₂ l₂ : List ℕ} where
  some_by : (xs : List Offset) {fs : List Fail} → (Within start xs → Adds (fails_from start signal xs) at c₁ s₁ l₁ c₂ s₂ l₂ m) → (m ≡ at → ⊥)
      → Within start (offsets_of t xs) → fails_from start signal (offsets_of t xs) ≡ fs → Adds fs at c₁ s₁ l₁ c₂ s₂ l₂ m
  unfolding offsets_of fails_from
  some_by [] f h w e = record { all = λ b gs n s r. absurd (h (((f tt).all b gs n s (roomy_less r (omega arith))).0 ∙ omega arith)) }
  some_by (o ∷ os) f h w e = adds_same e (f w)

  one_by : (xs : List Offset) {fs : List Fail} {c₃ s₃ l₃ : List ℕ} {n : ℕ} → (Within start xs → Adds (fails_from start signal xs) at c₁ s₁ l₁ c₂ s₂ l₂ m) → m ≡ at
      → PutsOne at (record { cycle = start; signal = signal; letter = 0 }) c₂ s₂ l₂ c₃ s₃ l₃ n
      → Within start (offsets_of t xs) → fails_from start signal (offsets_of t xs) ≡ fs → Adds fs at c₁ s₁ l₁ c₃ s₃ l₃ n
  unfolding offsets_of fails_from
  one_by [] {c₃ = c₃} {s₃} {l₃} {n} f h p w e =
      let z : start ≡ start + 0 = omega arith in
      adds_same (ap (λ (k : ℕ). record { cycle = k; signal = signal; letter = 0 } ∷ []) z ∙ e) (adds_both (f tt) (subst (λ (k : ℕ). PutsOne k (record { cycle = start; signal = signal; letter = 0 }) c₂ s₂ l₂ c₃ s₃ l₃ n) (sym h) p))
  one_by (o ∷ os) f h p w e = record { all = λ b gs n s r. absurd (omega (arith, h, ((f w).all b gs n s (roomy_less r (omega (arith, ap length e)))).0)) }

module _ {report : List ℕ} {c a : Cursor} (ss : Signals) (first : ℕ) (past : List ℕ → Option ℕ) {signal start at : ℕ} (r : Maybe ℕ)
    (g : Goes report c (head ss) a (ahead report c, signal)) (k : value_of r ≡ past (span report c.at c.end)) (from_is : first + unwrap_or r 0 ≤ cycles_most → start ≡ first + unwrap_or r 0)
    {c₁ s₁ l₁ c₂ s₂ l₂ : List ℕ} {w : Wrote} (os : WritesOffsets report a start signal at c₁ s₁ l₁ c₂ s₂ l₂ w) where
  abbrev it : Record
  it = record { reference = ahead report c; signal = signal; offsets = os.list }

  -- what its answers are
  record Means (count : ℕ) (fs : List Fail) : Type 0 where
    within : Within start (offsets_of (ahead report c) os.list)
    are : fails_from start signal (offsets_of (ahead report c) os.list) ≡ fs

  means : (count : ℕ) (fs : List Fail) → first + count ≤ cycles_most → answered_of first count past it ≡ given fs → Means count fs
  unfolding offsets_of
  means count fs fits e = by r refl
    where
      on : {n : ℕ} → past (span report c.at c.end) ≡ some n → n ≡ unwrap_or r 0 → Means count fs
      on {n} q i =
          let x = answered_none (first_outside (count - n) (offsets_of (ahead report c) os.list)) (sym (answered_known first count past it q) ∙ e) in
          let few : n < count = rest os.list x.0 in
          let s : start ≡ first + n = from_is (omega (arith, i)) ∙ ap (λ (m : ℕ). first + m) (sym i) in
          record {
            within = subst (λ (m : ℕ). Within m (offsets_of (ahead report c) os.list)) (sym s) (inside (count - n) _ x.0 (first + n) (omega arith));
            are = ap (λ (m : ℕ). fails_from m signal (offsets_of (ahead report c) os.list)) s ∙ x.1;
          }
        where
          rest : (xs : List Offset) → first_outside (count - n) (offsets_of (ahead report c) xs) ≡ none → n < count
          rest xs f = omega (arith, go xs f)
            where
              go : (ys : List Offset) → first_outside (count - n) (offsets_of (ahead report c) ys) ≡ none → 0 < count - n
              go [] f = some_left (count - n) _ [] f
              go (o ∷ ys) f = some_left (count - n) o ys f

      by : (o : Maybe ℕ) → r ≡ o → Means count fs
      by (Some n) q = on (sym k ∙ ap value_of q) (ap (λ (o : Maybe ℕ). unwrap_or o 0) (sym q))
      by None q =
          let z = sym (answered_unknown first count past it (sym k ∙ ap value_of q)) ∙ e in
          let y : ◌≡◌ {A = ℕ} 0 1 = cc in
          absurd (omega arith)

  pub writes_some : (w.at ≡ at → ⊥) → WritesRecord report c ss first past at c₁ s₁ l₁ c₂ s₂ l₂ w
  writes_some h = record {
    it = it;
    goes = record_goes ss g os.goes;
    adds = λ count fs fits e. (let m = means count fs fits e in some_by start signal (ahead report c) os.list os.adds h m.within m.are);
  }

  pub writes_one : {c₃ s₃ l₃ : List ℕ} {n : ℕ} → w.at ≡ at → PutsOne at (record { cycle = start; signal = signal; letter = 0 }) c₂ s₂ l₂ c₃ s₃ l₃ n
      → WritesRecord report c ss first past at c₁ s₁ l₁ c₃ s₃ l₃ (record { cursor = w.cursor; at = n })
  writes_one h p = record {
    it = it;
    goes = record_goes ss g os.goes;
    adds = λ count fs fits e. (let m = means count fs fits e in one_by start signal (ahead report c) os.list os.adds h p m.within m.are);
  }

-- ---- all records

module _ (report : List ℕ) (ss : Signals) (first : ℕ) (past : List ℕ → Option ℕ) (c₁ s₁ l₁ : List ℕ) where
  -- the records so far are answered
  pub record Written (close : List ℕ) (d₀ d : Cursor) (cycles signals letters : List ℕ) (n : ℕ) : Type 0 where
    pub so_far : List Record
    pub leads : Leads report d₀ (while (λ vs. not (ahead_of close vs)) (one_record ss) []) d (while (λ vs. not (ahead_of close vs)) (one_record ss) so_far)
    pub adds : (count : ℕ) (fs : List Fail) → first + count ≤ cycles_most → answered_all first count past so_far ≡ given fs → Adds fs 0 c₁ s₁ l₁ cycles signals letters n

  pub written_none : {close : List ℕ} {d : Cursor} → Written close d d c₁ s₁ l₁ 0
  unfolding answered_all
  written_none = record { so_far = []; leads = record { same = refl }; adds = λ count fs fits e. (let q : ◌≡◌ {A = List Fail} [] fs = cc in adds_same q adds_none) }

  pub written_more : {close : List ℕ} {d₀ d : Cursor} {c s l c' s' l' : List ℕ} {n : ℕ} {b : Bool} {r : Wrote} → Written close d₀ d c s l n
      → b ≡ (alive d && not (ahead_of close (stream report d))) → b ≡ true → WritesRecord report d ss first past n c s l c' s' l' r → Written close d₀ r.cursor c' s' l' r.at
  written_more k e h w = record {
    so_far = k.so_far ++ w.it ∷ [];
    leads = turned _ (one_record ss) (takes_record ss) k.leads e h (w.goes k.so_far);
    adds = λ count fs fits f. (
        let x = both (answered_all first count past k.so_far) (answered_of first count past w.it) ◌++◌ (sym (answered_last first count past k.so_far w.it) ∙ f) in
        adds_same x.joined (adds_both (k.adds count x.one fits x.is_one_lem) (w.adds count x.two fits x.is_two)));
  }

  pub written_all : {at : ℕ} {d₀ d : Cursor} {c s l : List ℕ} {n : ℕ} {b : Bool} → Stands report at d₀ → Written (bytes "}") d₀ d c s l n
      → b ≡ (alive d && not (ahead_of (bytes "}") (stream report d))) → b ≡ false → Writes report at ss first past c₁ s₁ l₁ c s l n
  written_all st k e h = record {
    adds = λ l us q count fs fits f. (
        let u = reads_on report ss k.so_far st k.leads q in
        let is = ended report ss _ k.so_far e h u.1 u.2 in
        k.adds count fs fits (ap (answered_all first count past) is ∙ f));
  }
