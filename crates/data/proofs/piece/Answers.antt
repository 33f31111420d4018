-- The token ahead is taken; its bytes say which piece it is.
use mathlib.Core.Path.{refl, sym, ◌∙◌}
use mathlib.Core.List.{[], ◌∷◌}
use Rattle.tokens.specs.Written.{bytes}
use Rattle.meaning.specs.Body.{mark}
use Rattle.meaning.proofs.Others.{same_eq}
use Rattle.words.proofs.Flow.{then, given, checked, refused_by}
use Rattle.data.proofs.Over.{adds_none, adds_same}
use Rattle.data.proofs.Pieces.{chars_read, piece_word, piece_mark, piece_repeat, piece_none}
use Rattle.data.proofs.piece.Goals as goal

pub shape_of-buffer-then-is_word : goal.shape_of-buffer-then-is_word
shape_of-buffer-then-is_word c = c.copy-m.ensures.kept

pub returns-then-is_word : goal.returns-then-is_word
returns-then-is_word c =
    let e = c.bytes_of-w.ensures in
    let word = sym c.is_word.ensures ∙ c.if-is_word.true in
    let read = chars_read _ e c.all_chars.ensures c.refuse_if-cursor.ensures in
    record {
      ds = _;
      goes = then _ c.step-d.ensures (piece_word _ _ e word read);
      kept = c.copy-m.ensures.kept;
      puts = λ h. adds_same c.copy-m.ensures e;
    }

pub shape_of-buffer-then-equal : goal.shape_of-buffer-then-equal
shape_of-buffer-then-equal c = c.copy-m-then-equal.ensures.kept

pub returns-then-equal : goal.returns-then-equal
unfolding bytes
returns-then-equal c =
    let e = c.bytes_of-w.ensures in
    let word = sym c.is_word.ensures ∙ c.if-is_word.false in
    let here = sym c.equal.ensures ∙ c.if-equal.true in
    let read = then _ (checked c.refuse_if-cursor-then-equal.ensures refl refl) given in
    record {
      ds = mark ∷ [];
      goes = then _ c.step-d.ensures (piece_mark _ _ e word here read);
      kept = c.copy-m-then-equal.ensures.kept;
      puts = λ h. adds_same c.copy-m-then-equal.ensures (same_eq _ (bytes "#") here);
    }

pub shape_of-buffer-then-equal-2 : goal.shape_of-buffer-then-equal-2
shape_of-buffer-then-equal-2 c = c.repeat.ensures.kept

pub returns-then-equal-2 : goal.returns-then-equal-2
unfolding bytes
returns-then-equal-2 c =
    let e = c.bytes_of-w.ensures in
    let word = sym c.is_word.ensures ∙ c.if-is_word.false in
    let marked = sym c.equal.ensures ∙ c.if-equal.false in
    let here = sym c.equal-2.ensures ∙ c.if-equal-2.true in
    let rest = c.repeat.ensures in
    record {
      ds = rest.ds;
      goes = then _ c.step-d.ensures (piece_repeat _ _ e word marked here rest.goes);
      kept = rest.kept;
      puts = rest.puts;
    }

pub returns : goal.returns
unfolding bytes
returns c =
    let e = c.bytes_of-w.ensures in
    let word = sym c.is_word.ensures ∙ c.if-is_word.false in
    let marked = sym c.equal.ensures ∙ c.if-equal.false in
    let repeats = sym c.equal-2.ensures ∙ c.if-equal-2.false in
    record {
      ds = [];
      goes = then _ c.step-d.ensures (piece_none _ _ e word marked repeats (refused_by c.refuse_if-cursor-2.ensures refl));
      kept = refl;
      puts = λ h. adds_none;
    }
