-- By what the row leaves: nothing, its argument's last character, or a character.
use Rattle.tallies.proofs.Entering.{left_nothing, left_last, left_char}
use Rattle.tallies.proofs.on_signal.Goals as goal

pub returns-then-u-eq0 : goal.returns-then-u-eq0
returns-then-u-eq0 c =
    λ xs u. record {
      shown = c.fits_where.ensures c.if-not-fits_where.false;
      fed = (c.in_ok-last.ensures xs u).1;
      pin_is = left_nothing _ _ _ c.if-u-eq0.true;
    }

pub returns-then-u-eq-MARK : goal.returns-then-u-eq-MARK
returns-then-u-eq-MARK c =
    λ xs u. let f = c.in_ok-last.ensures xs u in record {
      shown = c.fits_where.ensures c.if-not-fits_where.false;
      fed = f.1;
      pin_is = left_last _ _ _ c.if-u-eq-MARK.true f.0;
    }

pub returns : goal.returns
returns c =
    λ xs u. record {
      shown = c.fits_where.ensures c.if-not-fits_where.false;
      fed = (c.in_ok-last.ensures xs u).1;
      pin_is = left_char _ _ _ c.if-u-eq0.false c.if-u-eq-MARK.false;
    }
