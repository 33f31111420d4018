-- Samples of 25: pairs inside a turn, into the second turn, into the third alone, behind a Loop, of two listed patterns; what is skipped. The definitions compute
-- them.
use Prim.Native.Nat.{ℕ}
use Prim.Native.String.{String}
use mathlib.Core.Path.{◌≡◌, refl}
use mathlib.Core.Option.{Option, none, some}
use mathlib.Core.List.{List, [], ◌∷◌}
use Rattle.meaning.specs.Meaning.{Answer, given, refused, Meaning, meaning}
use Rattle.meaning.specs.Open.{everything}
use Rattle.meaning.specs.Samples.{whole, one_listed}

-- A's waveforms in two tables: 0 drives at 0, 1 until the end of t0's cycle, 2 first at 1 ps; L and X compare alone
unfoldable pub listing : String → List String → List ℕ
unfolding whole
listing list =
    whole "Signals { A InOut; B Out; }" "SignalGroups { ab = 'A+B'; }"
    "Timing { WaveformTable t0 { Period '100ns'; Waveforms { A { 0 { '0ns' D; } 1 { '0ns' U; '100ns' D; } 2 { '1ps' D; } L { '150ns' L; } X { '0ns' X; } } } }"
    " WaveformTable t1 { Period '200ns'; Waveforms { A { 0 { '0ns' D; } 1 { '0ns' U; '100ns' D; } } B { 0 { '0ns' D; } } } } }"
    "MacroDefs { m { V { A = 0; } } s { Shift { V { A = #; } } } } Procedures { f { V { } } g { V { A = 1; } V { A = 0; } } }" list

unfoldable pub playing : String → List ℕ
unfolding listing
playing s = listing "PatternBurst b { PatList { p; } }" (s ∷ [])

-- each text with its refusal, if any
abbrev pub Sample : Type 0
Sample = List ℕ × Option (ℕ × ℕ)

unfoldable pub edges : List Sample
unfolding listing playing
edges =
    -- a pair inside a turn
    (playing "Pattern p { W t0; Loop 2 { V { A = 1; } V { A = 0; } } }", some (25, 570))
    -- into the second turn
    ∷ (playing "Pattern p { W t0; Loop 2 { V { A = 0; } V { A = 1; } } }", some (25, 557))
    ∷ (playing "Pattern p { W t0; Loop 1 { V { A = 0; } V { A = 1; } } }", none)
    -- into the third turn, and not before
    ∷ (playing "Pattern p { W t0; C { A = 0; } Loop 3 { V { } C { A = 1; } } }", some (25, 570))
    ∷ (playing "Pattern p { W t0; C { A = 0; } Loop 2 { V { } C { A = 1; } } }", none)
    -- behind a Loop: at the same time is not before, 1 ps later is
    ∷ (playing "Pattern p { W t0; Loop 3 { V { A = 2; } V { A = 1; } } V { A = 0; } }", some (25, 585))
    ∷ (playing "Pattern p { W t0; Loop 3 { V { A = 2; } V { A = 1; } } V { A = 2; } }", none)
    -- a value that is held
    ∷ (playing "Pattern p { W t0; V { A = 1; } V { } }", some (25, 561))
    -- the earlier cycle's period counts
    ∷ (playing "Pattern p { W t0; V { A = 1; } W t1; V { A = 0; } }", some (25, 567))
    ∷ (playing "Pattern p { W t1; V { A = 1; } W t0; V { A = 0; } }", none)
    -- a category that either lacks is skipped, and the cycle behind that is not asked
    ∷ (playing "Pattern p { W t0; V { A = 1; } V { A = L; } V { A = 0; } }", none)
    -- compare events as well
    ∷ (playing "Pattern p { W t0; V { A = L; } V { A = X; } }", some (25, 561))
    -- in a macro, at its V
    ∷ (playing "Pattern p { W t0; V { A = 1; } Macro m; }", some (25, 359))
    -- a procedure begins without values; within it pairs are asked for
    ∷ (playing "Pattern p { W t0; V { A = 1; } Call f; V { A = 0; } }", none)
    ∷ (playing "Pattern p { W t0; Call g; }", some (25, 447))
    -- 17 comes before
    ∷ (playing "Pattern p { W t0; V { A = 1; } V { } V { A = H; } }", some (17, 567))
    -- between two listed patterns nothing is asked
    ∷ (listing "PatternBurst b { PatList { p; q; p; } }" ("Pattern p { W t0; V { A = 0; } V { A = 1; } }" ∷ "Pattern q { W t0; V { A = 0; } }" ∷ []), none)
    ∷ (listing "PatternBurst b { PatList { p; q; p; } }" ("Pattern p { W t0; V { A = 0; } V { A = 1; } }" ∷ "Pattern q { W t0; V { A = 1; } V { } }" ∷ []), some (25, 613))
    ∷ []

unfoldable pub told : Answer Meaning → Option (ℕ × ℕ)
told (given m) = none
told (refused n p) = some (n, p)

unfoldable pub asked : List Sample → List (Option (ℕ × ℕ))
asked [] = []
asked (x ∷ xs) = told (meaning x.0) ∷ asked xs

unfoldable pub answered : List Sample → List (Option (ℕ × ℕ))
answered [] = []
answered (x ∷ xs) = x.1 ∷ answered xs

pub all_told : asked edges ≡ answered edges
unfolding everything whole one_listed edges listing playing told asked answered
all_told = refl
