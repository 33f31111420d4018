-- `head` meets its contract: the word ahead is taken once, and each of its tests has its law.
use mathlib.Core.Path.{◌≡◌, ◌∙◌}
use mathlib.Core.Bool.{false}
use Rattle.tokens.specs.Written.{bytes, same}
use Rattle.words.specs.Cursor.{ahead}
use Rattle.heads.proofs.ByWord.{word_told}
use Rattle.heads.proofs.Heads.{vector_read, constants_read, choice_read, loop_opened, other_read}
use Rattle.heads.proofs.head.Goals as goal
use Rattle.heads.proofs.head.Goals.{Else-equal, Else-equal-2, Else-equal-3, Else-equal-4}

-- what each test that failed says of the word
not_V : (c : Else-equal) → same (ahead c.args.declared.now.text.now c.args.c).word (bytes "V") ≡ false
unfolding bytes
not_V c = word_told "V" c.bytes_of-w.ensures c.equal.ensures c.if-equal.false

not_C : (c : Else-equal-2) → same (ahead c.args.declared.now.text.now c.args.c).word (bytes "C") ≡ false
unfolding bytes
not_C c = word_told "C" c.bytes_of-w.ensures c.equal-2.ensures c.if-equal-2.false

not_W : (c : Else-equal-3) → same (ahead c.args.declared.now.text.now c.args.c).word (bytes "W") ≡ false
unfolding bytes
not_W c = word_told "W" c.bytes_of-w.ensures c.equal-3.ensures c.if-equal-3.false

not_Loop : (c : Else-equal-4) → same (ahead c.args.declared.now.text.now c.args.c).word (bytes "Loop") ≡ false
unfolding bytes
not_Loop c = word_told "Loop" c.bytes_of-w.ensures c.equal-4.ensures c.if-equal-4.false

pub assigns-cursor-requires : goal.assigns-cursor-requires
assigns-cursor-requires c = (c.requires.0.describes.ready, c.requires.2)

pub returns-then-equal : goal.returns-then-equal
unfolding bytes
returns-then-equal c = (
  c.assigns-cursor.ensures.long,
  c.requires.3,
  λ e h.
      vector_read h c.args.own c.args.d c.args.seen c.step-behind.ensures _ _
      (word_told "V" c.bytes_of-w.ensures c.equal.ensures c.if-equal.true)
      c.assigns-cursor.ensures,
)

pub assigns-cursor-requires-then-equal-2 : goal.assigns-cursor-requires-then-equal-2
assigns-cursor-requires-then-equal-2 c = (c.requires.0.describes.ready, c.requires.2)

pub returns-then-equal-2 : goal.returns-then-equal-2
unfolding bytes
returns-then-equal-2 c = (
  c.assigns-cursor-then-equal-2.ensures.long,
  c.requires.3,
  λ e h.
      constants_read h c.args.own c.args.d c.args.seen c.step-behind.ensures (not_V (goal.at.returns-then-equal-2 c).Else-equal) _ _
      (word_told "C" c.bytes_of-w.ensures c.equal-2.ensures c.if-equal-2.true)
      c.assigns-cursor-then-equal-2.ensures,
)

pub returns-then-equal-3 : goal.returns-then-equal-3
unfolding bytes
returns-then-equal-3 c = (
  c.requires.2.long,
  c.requires.3,
  λ e h.
      choice_read h c.args.own c.args.d c.args.seen c.step-behind.ensures (not_V (goal.at.returns-then-equal-3 c).Else-equal) (not_C (goal.at.returns-then-equal-3 c).Else-equal-2)
      (word_told "W" c.bytes_of-w.ensures c.equal-3.ensures c.if-equal-3.true)
      (c.chosen.ensures _ h.tables_are _ _ _ _),
)

pub returns-then-equal-4 : goal.returns-then-equal-4
unfolding bytes
returns-then-equal-4 c = (
  c.requires.2.long,
  c.requires.3,
  λ e h.
      loop_opened h c.args.own c.args.d c.args.seen c.step-behind.ensures (not_V (goal.at.returns-then-equal-4 c).Else-equal) (not_C (goal.at.returns-then-equal-4 c).Else-equal-2) (not_W (goal.at.returns-then-equal-4 c).Else-equal-3)
      (word_told "Loop" c.bytes_of-w.ensures c.equal-4.ensures c.if-equal-4.true)
      (c.looping.ensures _ _ _ _ _),
)

pub further-requires : goal.further-requires
further-requires c = (c.requires.0, c.requires.1, c.requires.2, c.requires.3)

pub returns : goal.returns
unfolding bytes
returns c =
    let call = c.further in (
      call.auto.given ∙ c.requires.2.long,
      call.auto.args ∙ c.requires.3,
      λ e h.
          other_read h c.args.own c.args.d c.args.seen c.step-behind.ensures (not_V (goal.at.returns c).Else-equal) (not_C (goal.at.returns c).Else-equal-2) (not_W (goal.at.returns c).Else-equal-3) (not_Loop (goal.at.returns c).Else-equal-4)
          c.bytes_of-w.ensures
          (call.ensures e h),
    )
