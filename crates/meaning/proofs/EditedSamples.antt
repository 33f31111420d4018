-- Two texts for the theorem of request 14: the middle one of three patterns is another, and the two others give the same rows.
use mathlib.Core.Path.{◌≡◌, refl}
use Prim.Native.Nat.{ℕ, ◌+◌}
use mathlib.Core.List.{List, [], ◌∷◌, ◌++◌}
use lib.ListN.{length}
use Rattle.tokens.specs.Written.{bytes, lines}
use Rattle.tokens.specs.Tokens.{toks}
use Rattle.meaning.specs.Body.{done}
use Rattle.meaning.specs.Meaning.{Answer, given, refused, Meaning, meaning}
use Rattle.meaning.specs.Services.{dot}
use Rattle.meaning.specs.Open.{everything}
use Rattle.meaning.specs.Samples.{whole, two_signals, one_group, one_table, its_waveforms, one_macro, listing}
use Rattle.meaning.specs.Run.{alone}
use Rattle.meaning.specs.Edited.{from_token, from_brace, PatternBlock, rows_of, listed_in, listed_of, listed_patterns, OthersSame}
use Rattle.meaning.proofs.Edited.{one_pattern_edited}

unfoldable pub front : List ℕ
front = listing "PatternBurst b { PatList { q; p; r; q; } }" ("Pattern q { W t0; V { A = 0; B = L; } }" ∷ [])

unfoldable pub old : List ℕ
old = bytes "Pattern p { W t0; V { ab = 1H; } }"

unfoldable pub new : List ℕ
new = bytes "Pattern p { Loop 3 { W t0; /* } */ V { ab = 0L; } } Macro m { A = 1; B = ; } }"

unfoldable pub back : List ℕ
back = lines ("" ∷ "Pattern r { W t0; Loop 2 { V { B = X; } } }" ∷ [])

unfoldable meant : Answer Meaning → Meaning
meant (given m) = m
meant (refused n p) = record { signals = []; tables = []; listed = 0; run = done }

-- all that they compute with
unfoldable opened : Unit {0}
unfolding everything whole two_signals one_group one_table its_waveforms one_macro listing front old new back meant from_token from_brace listed_patterns listed_of listed_in rows_of alone
opened = tt

-- the block in each text
old_block : PatternBlock (front ++ (old ++ back)) (length front) (length front + length old) (bytes "p")
unfolding opened
old_block = record {
  before = 134;
  word = record { at = length front; word = bytes "Pattern" };
  named = record { at = length front + 8; word = bytes "p" };
  brace = record { at = length front + 10; word = bytes "{" };
  inside = from_token 137 (toks (front ++ (old ++ back)) 0);
  last = record { at = length front + 33; word = bytes "}" };
  behind = from_token 148 (toks (front ++ (old ++ back)) 0);
  opens = refl;
  closes = refl;
  is_pattern = refl;
  is_named = refl;
  is_word_lem = refl;
  is_brace = refl;
  first = refl;
  end = refl;
}

new_block : PatternBlock (front ++ (new ++ back)) (length front) (length front + length new) (bytes "p")
unfolding opened
new_block = record {
  before = 134;
  word = record { at = length front; word = bytes "Pattern" };
  named = record { at = length front + 8; word = bytes "p" };
  brace = record { at = length front + 10; word = bytes "{" };
  inside = from_token 137 (toks (front ++ (new ++ back)) 0);
  last = record { at = length front + 77; word = bytes "}" };
  behind = from_token 163 (toks (front ++ (new ++ back)) 0);
  opens = refl;
  closes = refl;
  is_pattern = refl;
  is_named = refl;
  is_word_lem = refl;
  is_brace = refl;
  first = refl;
  end = refl;
}

-- both texts are accepted
old_accepted : meaning (front ++ (old ++ back)) ≡ given (meant (meaning (front ++ (old ++ back))))
unfolding opened
old_accepted = refl

new_accepted : meaning (front ++ (new ++ back)) ≡ given (meant (meaning (front ++ (new ++ back))))
unfolding opened
new_accepted = refl

-- so the theorem speaks of them
pub others_in_both : OthersSame (bytes "p") (listed_patterns dot (front ++ (old ++ back))) (listed_patterns dot (front ++ (new ++ back)))
others_in_both = one_pattern_edited dot front old new back (bytes "p") _ _ old_accepted new_accepted old_block new_block

-- what is listed: the pattern in the middle alone is another
pub listed_old : listed_patterns dot (front ++ (old ++ back)) ≡ (
    record { name = bytes "q"; cycles = 1; rows = lines ("0L0" ∷ []) }
    ∷ record { name = bytes "p"; cycles = 1; rows = lines ("1H0" ∷ []) }
    ∷ record { name = bytes "r"; cycles = 2; rows = lines (".X0" ∷ ".X0" ∷ []) }
    ∷ record { name = bytes "q"; cycles = 1; rows = lines ("0L0" ∷ []) }
    ∷ [])
unfolding opened
listed_old = refl

pub listed_new : listed_patterns dot (front ++ (new ++ back)) ≡ (
    record { name = bytes "q"; cycles = 1; rows = lines ("0L0" ∷ []) }
    ∷ record { name = bytes "p"; cycles = 4; rows = lines ("0L0" ∷ "0L0" ∷ "0L0" ∷ "1L0" ∷ []) }
    ∷ record { name = bytes "r"; cycles = 2; rows = lines (".X0" ∷ ".X0" ∷ []) }
    ∷ record { name = bytes "q"; cycles = 1; rows = lines ("0L0" ∷ []) }
    ∷ [])
unfolding opened
listed_new = refl
