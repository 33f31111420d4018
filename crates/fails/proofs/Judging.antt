-- The pass for 24: one record, and all of them.
use Prim.Native.Nat.{ℕ, suc, ◌+◌, ◌-◌, ◌≤◌, ◌<◌}
use native.Mathlib.Omega.{arith}
use mathlib.Core.Path.{◌≡◌, refl, sym, ap, ◌∙◌, subst}
use mathlib.Core.Bool.{Bool, true, false, not, ◌&&◌, ◌||◌}
use Rattle.std.specs.Prelude.{Option as Maybe, Some, None, IfSome}
use Rattle.std.specs.Option.{is_some, unwrap_or}
use Rattle.words.specs.Values.{value_of}
use mathlib.Core.Option.{Option, none, some}
use mathlib.Core.List.{List, [], ◌∷◌, ◌++◌, append_assoc, append-nil}
use lib.Dec.{leb, ltb, eqb}
use lib.ListN.{length, length-append}
use borrow.Author.Tests.{lt-leb, ltb-true, ltb-false, eqb-true, eqb-false}
use Rattle.tokens.specs.Written.{bytes}
use Rattle.tokens.specs.Tokens.{Toks}
use Rattle.tokens.proofs.Bools.{neither, never}
use Rattle.meaning.specs.Reader.{ok, ahead_of, while, closed, until}
use Rattle.meaning.specs.Meaning.{Answer, given, refused, answering}
use Rattle.meaning.proofs.Gives.{bind_ok, give_ok}
use Rattle.meaning.proofs.Takes.{while_done}
use Rattle.held.proofs.Leads.{leads_bind, leads_give, leads_while}
use Rattle.words.specs.Cursor.{span, ahead, stream, Stands, alive, from, Goes}
use Rattle.words.specs.Values.{told}
use Rattle.words.specs.declared.Cursor.{Cursor}
use Rattle.words.proofs.Flow.{from_on, from_stop, given as gives, then}
use Rattle.words.proofs.Loops.{Leads, turned}
use Rattle.reports.specs.Report.{Signals, Offset, Record, Fail, not_in_pattern, head, one_more, one_record, offsets_of, answered_of, answered_all}
use Rattle.reports.specs.Read.{earlier, first_outside, Places}
use Rattle.reports.specs.declared.Placed.{Placed}
use Rattle.reports.proofs.Answers.{answered_append}
use Rattle.reports.proofs.Counting.{fails_from, answered_by, answered_by_lem}
use Rattle.reports.proofs.Passing.{takes_record}
use Rattle.fails.specs.Judged.{JudgesRecord, Roomed, Records, Judges}
use Rattle.fails.specs.declared.Judged.{Judged}
use Rattle.fails.specs.declared.Room.{Room}

-- the word that a reference is looked up by
pub at_word : {o : Option ℕ} {v w : List ℕ} (past : List ℕ → Option ℕ) → o ≡ past v → v ≡ w → o ≡ past w
at_word past e q = e ∙ ap past q

-- ---- room

module _ (x : Room) (n : ℕ) where
  pub none_taken : (x.full || ltb x.left n) ≡ true → (room used : ℕ) → Roomed room used x → Roomed room (used + n) (record { left = 0; full = true })
  none_taken e room used r = record { fits = λ z. never (sym z); lacks = λ z. by x.full refl (ltb x.left n) refl e }
    where
      by : (y : Bool) → x.full ≡ y → (z : Bool) → ltb x.left n ≡ z → (y || z) ≡ true → room < used + n
      by true q z p e = omega (arith, r.lacks q)
      by false q true p e = omega (arith, r.fits q, ltb-true x.left n p)
      by false q false p e = never e

  pub enough : (x.full || ltb x.left n) ≡ false → n ≤ x.left
  enough e = ltb-false x.left n (neither x.full (ltb x.left n) e).1

  pub some_taken : (x.full || ltb x.left n) ≡ false → (room used : ℕ) → Roomed room used x → Roomed room (used + n) (record { left = x.left - n; full = false })
  some_taken e room used r = record {
    fits = λ z. omega (arith, enough e, r.fits (neither x.full (ltb x.left n) e).0);
    lacks = λ z. never z;
  }

pub fails_long : (start s : ℕ) (os : List Offset) → length (fails_from start s os) ≡ length os
unfolding fails_from
fails_long start s [] = refl
fails_long start s (o ∷ os) = ap suc (fails_long start s os)

-- ---- one record

module _ (first cycles : ℕ) (past : List ℕ → Option ℕ) (it : Record) where
  pub answered_unknown : past it.reference.word ≡ none → answered_of first cycles past it ≡ refused not_in_pattern it.reference.at
  unfolding answered_of
  answered_unknown e = rw (e, answered_of)

  pub answered_known : {n : ℕ} → past it.reference.word ≡ some n
      → answered_of first cycles past it
      ≡ answered_by (first_outside (cycles - n) (offsets_of it.reference it.offsets)) (fails_from (first + n) it.signal (offsets_of it.reference it.offsets))
  unfolding answered_of
  answered_known {n} e = rw (e, answered_of) (answered_by_lem first cycles past n it.signal (offsets_of it.reference it.offsets))

-- a record as it was read
pub record_goes : {report : List ℕ} {c d r : Cursor} {s : ℕ} {os : List Offset} (ss : Signals) → Goes report c (head ss) d (ahead report c, s)
    → Goes report d (until ";" one_more []) r os → (l : List Record) → Goes report c (one_record ss l) r (l ++ record { reference = ahead report c; signal = s; offsets = os } ∷ [])
unfolding one_record
record_goes ss g p l = then _ g (then _ p gives)

-- how many cycles come before a reference that is known, and before one that isn't
none_there : (r : Maybe ℕ) → is_some r ≡ false → value_of r ≡ none
none_there None e = refl
none_there (Some n) e = never (sym e)

value_there : (r : Maybe ℕ) → is_some r ≡ true → value_of r ≡ some (unwrap_or r 0)
value_there None e = never e
value_there (Some n) e = refl

left_there : (r : Maybe ℕ) (cycles : ℕ) {left : ℕ} → is_some r ≡ true → IfSome r (λ n. left ≡ cycles - n) → left ≡ cycles - unwrap_or r 0
left_there None cycles e h = never e
left_there (Some n) cycles e h = h

module _ {report : List ℕ} {c a : Cursor} (ss : Signals) (cycles : ℕ) (past : List ℕ → Option ℕ) {s left : ℕ} {p : Placed} (r : Maybe ℕ) (missing : Bool) (m : is_some r ≡ not missing)
    (g : Goes report c (head ss) a (ahead report c, s)) (os : Places report a left p) (k : value_of r ≡ past (span report c.at c.end))
    (l : IfSome r (λ n. left ≡ cycles - n)) where
  abbrev it : Record
  it = record { reference = ahead report c; signal = s; offsets = os.list }

  abbrev before : ℕ
  before = unwrap_or r 0

  unknown : missing ≡ true → past (span report c.at c.end) ≡ none
  unknown e = sym k ∙ none_there r (m ∙ ap not e)

  known : missing ≡ false → past (span report c.at c.end) ≡ some before
  known e = sym k ∙ value_there r (m ∙ ap not e)

  -- its answers, by the first offset that falls outside
  by_offsets : missing ≡ false → (first : ℕ)
      → answered_of first cycles past it ≡ answered_by (first_outside left (offsets_of (ahead report c) os.list)) (fails_from (first + before) s (offsets_of (ahead report c) os.list))
  by_offsets e first =
      answered_known first cycles past it (known e)
      ∙ ap (λ (n : ℕ). answered_by (first_outside n (offsets_of (ahead report c) os.list)) (fails_from (first + before) s (offsets_of (ahead report c) os.list))) (sym (left_there r cycles (m ∙ ap not e) l))

  none_listed : p.count ≡ 0 → os.list ≡ []
  none_listed e = by os.list (sym os.many ∙ e)
    where
      by : (xs : List Offset) → length xs ≡ 0 → xs ≡ []
      by [] q = refl
      by (x ∷ xs) q = absurd (omega arith)

  some_listed : (p.count ≡ 0 → ⊥) → offsets_of (ahead report c) os.list ≡ os.list
  unfolding offsets_of
  some_listed e = by os.list (λ q. e (os.many ∙ q))
    where
      by : (xs : List Offset) → (length xs ≡ 0 → ⊥) → offsets_of (ahead report c) xs ≡ xs
      by [] q = absurd (q refl)
      by (x ∷ xs) q = refl

  -- without offsets: by the cycles that are left
  alone_by : missing ≡ false → p.count ≡ 0 → {x : Bool} → leb left 0 ≡ x → (first : ℕ)
      → answered_of first cycles past it ≡ answered_by (told x c.at) (record { cycle = first + before + 0; signal = s; letter = 0 } ∷ [])
  unfolding offsets_of first_outside earlier fails_from
  alone_by e z {x} q first =
      by_offsets e first
      ∙ ap (λ (xs : List Offset). answered_by (first_outside left (offsets_of (ahead report c) xs)) (fails_from (first + before) s (offsets_of (ahead report c) xs))) (none_listed z)
      ∙ ap (λ (y : Bool). answered_by (earlier (told y c.at) none) (record { cycle = first + before + 0; signal = s; letter = 0 } ∷ [])) q ∙ by x
    where
      by : (y : Bool) → answered_by (earlier (told y c.at) none) (record { cycle = first + before + 0; signal = s; letter = 0 } ∷ [])
          ≡ answered_by (told y c.at) (record { cycle = first + before + 0; signal = s; letter = 0 } ∷ [])
      by true = refl
      by false = refl

  pub judges_out : (missing || (eqb p.count 0 && eqb left 0)) ≡ true
      → JudgesRecord report c ss cycles past (record { cursor = p.cursor; outside = Some c.at; count = 0 })
  judges_out e = record {
    it = it;
    goes = record_goes ss g os.goes;
    refuses = λ place z first. (let q : c.at ≡ place = cc in by first missing refl (eqb p.count 0) refl (eqb left 0) refl e ∙ ap (refused not_in_pattern) q);
    answers = λ z. (let y : ◌≡◌ {A = ℕ} 0 1 = cc in absurd (omega arith));
  }
    where
      by : (first : ℕ) (x : Bool) → missing ≡ x → (y : Bool) → eqb p.count 0 ≡ y → (z : Bool) → eqb left 0 ≡ z → (x || (y && z)) ≡ true
          → answered_of first cycles past it ≡ refused not_in_pattern c.at
      by first true q y o z t e = answered_unknown first cycles past it (unknown q)
      by first false q true o true t e = alone_by q (eqb-true p.count 0 o) (ap (λ (n : ℕ). leb n 0) (eqb-true left 0 t)) first
      by first false q true o false t e = never e
      by first false q false o z t e = never e

  pub judges_in : (missing || (eqb p.count 0 && eqb left 0)) ≡ false → {n : ℕ} → (p.count ≡ 0 → n ≡ 1) × ((p.count ≡ 0 → ⊥) → n ≡ p.count)
      → JudgesRecord report c ss cycles past (record { cursor = p.cursor; outside = p.outside; count = n })
  unfolding first_outside
  judges_in e {n} many = by (eqb p.count 0) refl (eqb left 0) refl (neither missing (eqb p.count 0 && eqb left 0) e).1
    where
      on : missing ≡ false
      on = (neither missing (eqb p.count 0 && eqb left 0) e).0

      by : (y : Bool) → eqb p.count 0 ≡ y → (z : Bool) → eqb left 0 ≡ z → (y && z) ≡ false
          → JudgesRecord report c ss cycles past (record { cursor = p.cursor; outside = p.outside; count = n })
      by true q true t f = never (sym f)
      by true q false t f =
          let z = eqb-true p.count 0 q in
          let none_out : value_of p.outside ≡ none = os.first ∙ ap (first_outside left) (none_listed z) in
          let more : leb left 0 ≡ false = lt-leb left 0 (omega (arith, eqb-false left 0 t)) in
          record {
            it = it;
            goes = record_goes ss g os.goes;
            refuses = λ place w. (let no : some place ≡ none = ap value_of (sym w) ∙ none_out in let y : ◌≡◌ {A = ℕ} 0 1 = cc in absurd (omega arith));
            answers = λ w first. (_, alone_by on z more first, sym (many.0 z));
          }
      by false q z t f =
          let some_there : p.count ≡ 0 → ⊥ = eqb-false p.count 0 q in
          let are : (first : ℕ) → answered_of first cycles past it ≡ answered_by (value_of p.outside) (fails_from (first + before) s os.list) =
          λ first. by_offsets on first
          ∙ ap (λ (xs : List Offset). answered_by (first_outside left xs) (fails_from (first + before) s xs)) (some_listed some_there)
          ∙ ap (λ (o : Option ℕ). answered_by o (fails_from (first + before) s os.list)) (sym os.first) in
          record {
            it = it;
            goes = record_goes ss g os.goes;
            refuses = λ place w first. are first ∙ ap (λ (o : Maybe ℕ). answered_by (value_of o) (fails_from (first + before) s os.list)) w;
            answers = λ w first. (
              _,
              are first ∙ ap (λ (o : Maybe ℕ). answered_by (value_of o) (fails_from (first + before) s os.list)) w,
              fails_long (first + before) s os.list ∙ sym os.many ∙ sym (many.1 some_there),
            );
          }

-- ---- records one behind the other

module _ (first cycles : ℕ) (past : List ℕ → Option ℕ) where
  pub answered_last : (l : List Record) (it : Record)
      → answered_all first cycles past (l ++ it ∷ []) ≡ answering (answered_all first cycles past l) (λ fs. answering (answered_of first cycles past it) λ gs. given (fs ++ gs))
  unfolding answered_all answering
  answered_last l it = answered_append first cycles past l (it ∷ []) ∙ by (answered_all first cycles past l) (answered_of first cycles past it)
    where
      by : (x y : Answer (List Fail)) → answering x (λ fs. answering (answering y (λ gs. given (gs ++ []))) λ hs. given (fs ++ hs)) ≡ answering x (λ fs. answering y λ gs. given (fs ++ gs))
      by (refused n p) y = refl
      by (given fs) (refused n p) = refl
      by (given fs) (given gs) = ap (λ (hs : List Fail). given (fs ++ hs)) (append-nil gs)

module _ (report : List ℕ) (ss : Signals) where
  abbrev pub Rest : List ℕ → List Record → Toks → List Record → Toks → Type 0
  Rest close s ts l us = while (λ vs. not (ahead_of close vs)) (one_record ss) s ts ≡ ok l us

  -- what is read behind some records stands behind them
  grows : (close : List ℕ) (s : List Record) (ts : Toks) (l : List Record) (us : Toks) → Rest close s ts l us → (more : List Record) × (s ++ more ≡ l)
  unfolding one_record
  grows close s ts l us e =
      (leads_while (λ x vs. (more : List Record) × (s ++ more ≡ x)) (one_record ss)
      (λ x vs h. leads_bind _ _ λ a ws w. leads_bind _ _ λ os xs y. leads_give _ (
        h.0 ++ record { reference = a.0; signal = a.1; offsets = os } ∷ [],
        sym (append_assoc s h.0 _) ∙ ap (λ (z : List Record). z ++ record { reference = a.0; signal = a.1; offsets = os } ∷ []) h.1,
      ))
      _ s ts ([], append-nil s)).all l us e

  -- records that can be read: from any of them on
  pub reads_on : {at : ℕ} {c₀ c : Cursor} {l : List Record} {us : Toks} (s : List Record) → Stands report at c₀
      → Leads report c₀ (while (λ vs. not (ahead_of (bytes "}") vs)) (one_record ss) []) c (while (λ vs. not (ahead_of (bytes "}") vs)) (one_record ss) s)
      → Records report at ss l us → (vs : Toks) × (alive c ≡ true) × Rest (bytes "}") s (stream report c) l vs
  unfolding until closed
  reads_on {at} {c₀} {c} {l} {us} s st q e =
      let i = bind_ok _ _ _ _ _ e in
      let j = bind_ok _ _ _ _ _ i.2 in
      let k = bind_ok _ _ _ _ _ j.3 in
      let is : l ≡ j.0 = sym (give_ok i.3).0 ∙ sym (ap (λ (x : List Record × ℕ). x.0) (give_ok k.3).0) in
      let on : alive c₀ ≡ true = ap (λ (n : ℕ). eqb n 0) st.on in
      let all : from report c (while (λ vs. not (ahead_of (bytes "}") vs)) (one_record ss) s) ≡ ok j.0 j.1 =
      q.same ∙ from_on report c₀ _ on ∙ ap (while (λ vs. not (ahead_of (bytes "}") vs)) (one_record ss) []) st.there ∙ j.2 in
      by (alive c) refl j.1 (all ∙ ap (λ (x : List Record). ok x j.1) (sym is))
    where
      by : (b : Bool) → alive c ≡ b → (vs : Toks) → from report c (while (λ vs. not (ahead_of (bytes "}") vs)) (one_record ss) s) ≡ ok l vs
          → (vs : Toks) × (alive c ≡ true) × Rest (bytes "}") s (stream report c) l vs
      by true h vs f = (vs, h, sym (from_on report c _ h) ∙ f)
      by false h vs f = let z = sym (from_stop report c _ h) ∙ f in let y : ◌≡◌ {A = ℕ} 0 1 = cc in absurd (omega arith)

  -- the `}` ends them
  pub ended : {b : Bool} {l : List Record} {vs : Toks} (c : Cursor) (s : List Record) → b ≡ (alive c && not (ahead_of (bytes "}") (stream report c))) → b ≡ false → alive c ≡ true
      → Rest (bytes "}") s (stream report c) l vs → s ≡ l
  ended c s e h on q =
      let closes : not (ahead_of (bytes "}") (stream report c)) ≡ false = sym (ap (λ (y : Bool). y && not (ahead_of (bytes "}") (stream report c))) on) ∙ sym e ∙ h in
      let p = sym (while_done (λ vs. not (ahead_of (bytes "}") vs)) (one_record ss) (takes_record ss) s (stream report c) closes) ∙ q in
      cc

  module _ (cycles : ℕ) (past : List ℕ → Option ℕ) (room : ℕ) where
    -- the records so far are answered, and so much of the room is left
    pub record Kept (close : List ℕ) (c₀ c : Cursor) (x : Room) : Type 0 where
      pub so_far : List Record
      pub leads : Leads report c₀ (while (λ vs. not (ahead_of close vs)) (one_record ss) []) c (while (λ vs. not (ahead_of close vs)) (one_record ss) so_far)
      pub answered : (first : ℕ) → (fs : List Fail) × (answered_all first cycles past so_far ≡ given fs) × Roomed room (length fs) x

    pub kept_none : {close : List ℕ} {c : Cursor} → Kept close c c (record { left = room; full = false })
    unfolding answered_all
    kept_none = record {
      so_far = [];
      leads = record { same = refl };
      answered = λ first. ([], refl, record { fits = λ z. omega arith; lacks = λ z. never z });
    }

    module _ {close : List ℕ} {c₀ c : Cursor} {x : Room} (k : Kept close c₀ c x) {b : Bool} (e : b ≡ (alive c && not (ahead_of close (stream report c)))) where
      pub kept_more : {r : Judged} {y : Room} → b ≡ true → JudgesRecord report c ss cycles past r → r.outside ≡ None
          → ((all used : ℕ) → Roomed all used x → Roomed all (used + r.count) y) → Kept close c₀ r.cursor y
      unfolding answering
      kept_more {r} {y} h j o t = record {
        so_far = k.so_far ++ j.it ∷ [];
        leads = turned _ (one_record ss) (takes_record ss) k.leads e h (j.goes k.so_far);
        answered = λ first. (
            let f = k.answered first in
            let g = j.answers o first in
            let are : answered_all first cycles past (k.so_far ++ j.it ∷ []) ≡ given (f.0 ++ g.0) = answered_last first cycles past k.so_far j.it ∙ rw (f.1, g.1) in
            let long : length (f.0 ++ g.0) ≡ length f.0 + r.count = length-append f.0 g.0 ∙ omega (arith, g.2) in
            (f.0 ++ g.0, are, subst (λ (n : ℕ). Roomed room n y) (sym long) (t room (length f.0) f.2)));
      }

    module _ {at : ℕ} {c₀ c : Cursor} {x : Room} (st : Stands report at c₀) (k : Kept (bytes "}") c₀ c x) {b : Bool} (e : b ≡ (alive c && not (ahead_of (bytes "}") (stream report c)))) where
      -- a 24
      pub judges_refused : {r : Judged} {place : ℕ} → b ≡ true → JudgesRecord report c ss cycles past r → r.outside ≡ Some place
          → Judges report at ss cycles past room (record { outside = Some place; full = false })
      unfolding answering
      judges_refused {r} {place} h j o = record {
        refuses = λ at z first l us q. (
            let same : place ≡ at = cc in
            let u = reads_on (k.so_far ++ j.it ∷ []) st (turned _ (one_record ss) (takes_record ss) k.leads e h (j.goes k.so_far)) q in
            let m = grows (bytes "}") _ _ _ _ u.2 in
            let f = k.answered first in
            let front : answered_all first cycles past (k.so_far ++ j.it ∷ []) ≡ refused not_in_pattern place =
            answered_last first cycles past k.so_far j.it ∙ rw (f.1, j.refuses place o first) in
            ap (answered_all first cycles past) (sym m.1) ∙ answered_append first cycles past (k.so_far ++ j.it ∷ []) m.0 ∙ rw front (ap (refused not_in_pattern) same));
        answers = λ z. (let y : ◌≡◌ {A = ℕ} 0 1 = cc in absurd (omega arith));
      }

      -- none
      pub judges_all : b ≡ false → Judges report at ss cycles past room (record { outside = None; full = x.full })
      judges_all h = record {
        refuses = λ place z. (let y : ◌≡◌ {A = ℕ} 0 1 = cc in absurd (omega arith));
        answers = λ z first l us q. (
            let u = reads_on k.so_far st k.leads q in
            let is = ended c k.so_far e h u.1 u.2 in
            let f = k.answered first in
            record {
              fails = f.0;
              are = ap (answered_all first cycles past) (sym is) ∙ f.1;
              fits = λ w. omega (arith, f.2.fits w);
              lacks = λ w. f.2.lacks w;
            });
      }
