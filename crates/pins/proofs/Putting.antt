-- The loop over the signals of a V or a C: what each one shows, and what is left of its argument, is what the definition's assignments leave.
use Prim.Native.Nat.{ℕ, zero, suc, ◌+◌, ◌-◌, ◌≤◌, ◌<◌, min}
use native.Mathlib.Omega.{arith}
use mathlib.Core.Path.{◌≡◌, refl, sym, ap, ◌∙◌, subst}
use mathlib.Core.Bool.{Bool, true, false}
use mathlib.Core.List.{List}
use lib.Dec.{ltb, eqb}
use lib.ListN.{length, get_or, take, drop, set, length-take}
use lib.Seq.{get_or-take, get_or-drop, ext_get_or}
use borrow.Author.Tests.{ltb-true, ltb-false, eq-eqb, ne_eqb, eqb-true}
use Rattle.meaning.specs.Bounds.{signals_most}
use Rattle.meaning.specs.Lists.{has}
use Rattle.meaning.specs.Body.{Assigns, mark, arg_of, supplied}
use Rattle.meaning.specs.Data.{assigned}
use Rattle.meaning.specs.Run.{State, puts}
use Rattle.meaning.proofs.Rows.{puts_table, puts_long}
use Rattle.words.specs.Packed.{ZerosFrom}
use Rattle.assigns.specs.Given.{char_of}
use Rattle.feeds.specs.declared.Feed.{Feed}
use Rattle.feeds.specs.declared.Fed.{Fed}
use Rattle.feeds.specs.Feeds.{Feeds, Takes}
use Rattle.measures.specs.Uses.{Given}
use Rattle.arguments.proofs.Lists.{inside_each}
use Rattle.pins.specs.Shown.{feed_at, Fills, Shows, Roomy, Playable, Others, eight, Idle}
use Rattle.pins.proofs.Turns.{Done, done_none, done_next, done_same, Refilled, refilled_none, refilled_next, refilled_same}
use Rattle.pins.proofs.Puts.{shown, left, puts_supplied, puts_pin, puts_arg, arg_unmoved, char_marked}

-- what signal k shows afterwards, whatever characters its feed has left
abbrev Showing : List ℕ → List ℕ → List ℕ → List ℕ → ℕ → ℕ → ℕ → Type 0
Showing text given values feeds level k v = (cs : List ℕ) → (eqb (get_or given k 0) mark ≡ true → Feeds text (feed_at feeds level k) cs)
    → v ≡ shown (get_or given k 0) (get_or values k 0) cs

-- and what is left of those
abbrev Remaining : List ℕ → List ℕ → List ℕ → ℕ → ℕ → Feed → Type 0
Remaining text given feeds level k f = (cs : List ℕ) → Feeds text (feed_at feeds level k) cs → Feeds text f (left (get_or given k 0) cs)

-- the first n signals are assigned
pub record Put (text given values feeds : List ℕ) (level n : ℕ) (values' feeds' : List ℕ) : Type 0 where
  pub shows : Done (Showing text given values feeds level) n values values'
  pub leaves : Refilled (Remaining text given feeds level) level n feeds feeds'

pub put_none : {text given values feeds : List ℕ} {level : ℕ} → Put text given values feeds level 0 values feeds
put_none = record { shows = done_none; leaves = refilled_none }

-- ---- one signal more

module _ {text given values feeds : List ℕ} {level k : ℕ} {values' feeds' : List ℕ} (x : Put text given values feeds level k values' feeds') (below : k < signals_most)
  where
    unfed : (get_or given k 0 ≡ mark → ⊥) → Remaining text given feeds level k (feed_at feeds level k)
    unfed m cs f = rw (ne_eqb _ _ m, left) f

    -- `#`
    pub put_fed : {f : Feed} {r : Fed} {feeds'' : List ℕ} → k < length values' → get_or given k 0 ≡ mark → f ≡ feed_at feeds' level k → Takes text f r
        → Fills feeds' level k r.feed feeds'' → Put text given values feeds level (k + 1) (set values' k r.char) feeds''
    put_fed {f} {r} inside e is took w =
        let t = subst (λ (f : Feed). Takes text f r) (is ∙ x.leaves.rest k (omega arith) below) took in
        record {
          shows = done_next x.shows r.char inside (λ cs f. rw e (t.char cs (f (eq-eqb _ _ e))));
          leaves = refilled_next x.leaves below w (λ cs f. rw e (t.left cs f));
        }

    -- a character
    pub put_given : k < length values' → (get_or given k 0 ≡ mark → ⊥) → (get_or given k 0 ≡ 0 → ⊥)
        → Put text given values feeds level (k + 1) (set values' k (get_or given k 0)) feeds'
    put_given inside m z =
        record {
          shows = done_next x.shows (get_or given k 0) inside (λ cs f. rw (ne_eqb _ _ z, shown) (rw (ne_eqb _ _ m)));
          leaves = refilled_same x.leaves below (unfed m);
        }

    -- none
    pub put_kept : (get_or given k 0 ≡ mark → ⊥) → get_or given k 0 ≡ 0 → Put text given values feeds level (k + 1) values' feeds'
    put_kept m z = record { shows = done_same x.shows (λ cs f. rw z); leaves = refilled_same x.leaves below (unfed m) }

-- ---- eight that are given nothing

pub idle_told : {given : List ℕ} {s n : ℕ} → ZerosFrom (take (s + eight - s) (drop s given)) n → eqb n 0 ≡ true → Idle given s eight
idle_told {given} {s} {n} x e = record {
  none = λ k l. sym (get_or-take (s + eight - s) (drop s given) k 0 (omega arith) ∙ get_or-drop s given k 0) ∙ x.none k (omega (arith, eqb-true n 0 e));
}

module _ {text given values feeds : List ℕ} {level k : ℕ} {values' feeds' : List ℕ} (x : Put text given values feeds level k values' feeds') (i : Idle given k eight) where
  passed : (d : ℕ) → d ≤ eight → k + d ≤ signals_most → Put text given values feeds level (k + d) values' feeds'
  passed zero h l = let e : k ≡ k + 0 = omega arith in subst (λ (n : ℕ). Put text given values feeds level n values' feeds') e x
  passed (suc d) h l =
      let z = i.none d (omega arith) in
      let e : k + d + 1 ≡ k + suc d = omega arith in
      subst (λ (n : ℕ). Put text given values feeds level n values' feeds') e (put_kept (passed d (omega arith) (omega arith)) (omega arith) (λ m. absurd (omega (arith, m, z))) z)

  pub put_idle : {signals r : ℕ} → k < signals → signals ≤ signals_most → r ≡ min (k + eight) signals → Put text given values feeds level r values' feeds'
  put_idle {signals} {r} h l e =
      let q : k + (r - k) ≡ r = omega arith in
      subst (λ (n : ℕ). Put text given values feeds level n values' feeds') q (passed (r - k) (omega arith) (omega arith))

-- ---- all of them

module _ {text given values feeds values' feeds' : List ℕ} {level signals n : ℕ} (room : Roomy signals values feeds level) (all : n ≡ signals)
    (x : Put text given values feeds level n values' feeds') where
  pub put_others : Others level values values' feeds feeds'
  put_others =
      record {
        rows = λ i h. x.shows.rest i (omega (arith, room.few));
        feeds_kept = x.leaves.others;
        values_long = x.shows.long;
        feeds_long = x.leaves.long;
      }

  module _ {a : Assigns} {s : State} {table : ℕ} (g : Given a given) (p : Playable signals a s.args) (h : Shows text signals values table feeds level s) where
    wide : length (take signals values) ≡ signals
    wide = omega (arith, length-take signals values, room.few, room.values_long)

    wide' : length (take signals values') ≡ signals
    wide' = omega (arith, length-take signals values', room.few, room.values_long, x.shows.long)

    long : length s.pins ≡ signals
    long = ap length h.pins_are ∙ wide

    char : (k : ℕ) → k < signals → char_of k a ≡ get_or given k 0
    char k b = sym (g.gave.each k (omega (arith, room.few)))

    -- `#` has an argument
    feeds_there : (k : ℕ) → k < signals → eqb (get_or given k 0) mark ≡ true → Feeds text (feed_at feeds level k) (arg_of k s.args)
    feeds_there k b e =
        (h.args_are.each k (inside_each _ (supplied s.args) p.fed k (char_marked k a (ap (λ (c : ℕ). eqb c mark) (char k b) ∙ e)))).1

    pin : (k : ℕ) → k < signals → get_or (puts a s).pins k 0 ≡ get_or (take signals values') k 0
    pin k b =
        puts_pin k a s g.once g.gave.real (omega (arith, long))
        ∙ ap (λ (c : ℕ). shown c (get_or s.pins k 0) (arg_of k s.args)) (char k b)
        ∙ ap (λ (n : ℕ). shown (get_or given k 0) n (arg_of k s.args)) (ap (λ (l : List ℕ). get_or l k 0) h.pins_are ∙ get_or-take signals values k 0 b)
        ∙ sym (x.shows.each k (omega arith) (arg_of k s.args) (feeds_there k b))
        ∙ sym (get_or-take signals values' k 0 b)

    arg : (k : ℕ) → k < signals_most → Feeds text (feed_at feeds level k) (arg_of k s.args) → Feeds text (feed_at feeds' level k) (arg_of k (puts a s).args)
    arg k b e = by (ltb k signals) refl
      where
        past : signals ≤ k → (z : Bool) → has k (assigned a) ≡ z → z ≡ false
        past o true e = absurd (let l = p.below k e in omega arith)
        past o false e = refl

        by : (z : Bool) → ltb k signals ≡ z → Feeds text (feed_at feeds' level k) (arg_of k (puts a s).args)
        by true z =
            let l = ltb-true k signals z in
            subst (Feeds text (feed_at feeds' level k)) (sym (puts_arg k a s g.once ∙ ap (λ (c : ℕ). left c (arg_of k s.args)) (char k l)))
            (x.leaves.each k (omega arith) (arg_of k s.args) e)
        by false z =
            let o = ltb-false k signals z in
            subst (Feeds text (feed_at feeds' level k)) (sym (arg_unmoved k a (past o (has k (assigned a)) refl) s))
            (subst (λ (f : Feed). Feeds text f (arg_of k s.args)) (sym (x.leaves.rest k (omega arith) b)) e)

    pub put_shows : Shows text signals values' table feeds' level (puts a s)
    put_shows =
        record {
          pins_are = ext_get_or 0 (puts a s).pins (take signals values') (puts_long a s ∙ long ∙ sym wide')
              (λ k b. pin k (omega (arith, puts_long a s, long)));
          table_is = puts_table a s ∙ h.table_is;
          args_are = record {
            each = λ k t. let e = h.args_are.each k (ap (has k) (sym (puts_supplied a s)) ∙ t) in (e.0, arg k e.0 e.1);
          };
        }
