-- The listing of document 01's own text, the line of a refusal and the edge of what is listed: the definition computes them.
use mathlib.Core.Path.{◌≡◌, refl}
use mathlib.Core.List.{[], ◌∷◌}
use Rattle.tokens.specs.Written
use Rattle.meaning.specs.Open.{everything}
use Rattle.meaning.specs.Samples.{worked, playing}
use Rattle.columns.specs.Columns.{past, onward, position}
use Rattle.pages.specs.Pages.{digits, decimal}
use Rattle.sections.specs.Listing.{counted_of, lines, listed_of, not_listed, sections_of, front, position_line, refusal, listing}

pub worked_listed : listing worked ≡ Written.lines (
    "SIGNALS 2" ∷ "A" ∷ "B" ∷ "TABLES 1" ∷ "t0" ∷ "CYCLES 7" ∷ "1X0" ∷ "0H0" ∷ "1H0" ∷ "0H0" ∷ "1L0" ∷ "0H0" ∷ "1H0" ∷ [])
unfolding everything worked digits decimal counted_of lines listed_of not_listed sections_of front past onward position position_line refusal listing
worked_listed = refl

pub refused_listed : listing (playing ("Pattern p { V { D = 1; } }" ∷ [])) ≡ Written.lines ("REFUSED 6 AT 328 LINE 9 COLUMN 17" ∷ [])
unfolding everything playing digits decimal counted_of lines listed_of not_listed sections_of front past onward position position_line refusal listing
refused_listed = refl

-- 1,000,000 rows are listed, and one more are not
pub edge : (listed_of 1_000_000 ≡ 1_000_000) × (not_listed 1_000_000 ≡ []) × (listed_of 1_000_001 ≡ 0) × (not_listed 1_000_001 ≡ Written.lines ("NOT LISTED" ∷ []))
unfolding everything listed_of not_listed
edge = (refl, refl, refl, refl)
