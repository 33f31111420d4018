-- The calls of a list one after the other: behind some of them, the rest are calls on what is left of all buffers.
use Prim.Native.Nat.{ℕ, ◌+◌, ◌-◌, ◌≤◌, ◌<◌}
use native.Mathlib.Omega.{arith}
use native.Mathlib.Numerals.{add-one}
use mathlib.Core.Path.{◌≡◌, refl, sym, ap, ◌∙◌}
use mathlib.Core.Option.{Option, none, some}
use mathlib.Core.List.{List, [], ◌∷◌, ◌++◌, append_assoc, append-nil}
use lib.ListN.{length, take, drop, set, length-drop, length-set, take-append-drop, drop_of_length-le}
use lib.Seq.{length-take-le, take-append-add, drop-append-add, drop-drop, take-suc-set, drop-set-lt}
use Rattle.std.proofs.Common.{None, Some, Result, Ok, Err}
use borrow.Rule.Slice.PartMut.{same_len_mid}
use Rattle.meaning.specs.Charts.{chart_most, Asked, asked_in, called, Chart, behind, over, chart}
use Rattle.meaning.proofs.Charts.{chart_served, chart_stops, called_written}
use Rattle.words.proofs.Words.{rest as part_in}
use Rattle.charts.specs.Serving.{Outlines, Serves}
use Rattle.charts.proofs.Lists.{Next}

-- ---- the part of a buffer behind its first e numbers, as it is lent and as it comes back

part_out : (e : ℕ) (xs ys : List ℕ) → take e xs ++ (ys ++ drop (length xs - e) (drop e xs)) ≡ take e xs ++ ys
part_out e xs ys = rw (drop_of_length-le (drop e xs) {i = length xs - e} (omega (arith, length-drop e xs)), append-nil)

-- ---- charts behind calls

-- behind none
behind_none : (times letters counts : List ℕ) (x : Chart) → x ≡ behind 0 0 times letters counts x
unfolding behind
behind_none times letters counts x =
    ap (λ (i : ℕ). record { stopped = x.stopped; served = i; events = x.events; times = x.times; letters = x.letters; counts = x.counts }) (omega arith)
    ∙ ap (λ (i : ℕ). record { stopped = x.stopped; served = 0 + x.served; events = i; times = x.times; letters = x.letters; counts = x.counts }) (omega arith)

-- nothing more is written
behind_over : (o : Option (ℕ × ℕ)) (n e : ℕ) (times letters counts : List ℕ)
    → behind n e times letters counts (over o (drop e times) (drop e letters) (drop n counts))
    ≡ record { stopped = o; served = n; events = e; times = times; letters = letters; counts = counts }
unfolding behind
behind_over o n e times letters counts =
    rw (take-append-drop e times, take-append-drop e letters, take-append-drop n counts)
    (ap (λ (i : ℕ). record { stopped = o; served = i; events = e + 0; times = times; letters = letters; counts = counts }) (omega arith)
    ∙ ap (λ (i : ℕ). record { stopped = o; served = n; events = i; times = times; letters = letters; counts = counts }) (omega arith))

-- what one call wrote, behind what others wrote
two_fronts : (e n : ℕ) (xs ys zs : List ℕ) → e ≤ length xs → take e xs ++ (take n ys ++ zs) ≡ take (e + n) (take e xs ++ ys) ++ zs
two_fronts e n xs ys zs h =
    let l = length-take-le e xs h in
    sym (append_assoc (take e xs) (take n ys) zs)
    ∙ ap (λ (m : List ℕ). m ++ zs) (sym (take-append-add (take e xs) ys n) ∙ ap (λ (i : ℕ). take (i + n) (take e xs ++ ys)) l)

behind_front : (e n : ℕ) (xs ys : List ℕ) → e ≤ length xs → drop n ys ≡ drop (e + n) (take e xs ++ ys)
behind_front e n xs ys h = sym (drop-append-add (take e xs) ys n) ∙ ap (λ (i : ℕ). drop (i + n) (take e xs ++ ys)) (length-take-le e xs h)

-- a count stored
two_counts : (n c : ℕ) (counts zs : List ℕ) → n < length counts → take n counts ++ c ∷ zs ≡ take (n + 1) (set counts n c) ++ zs
two_counts n c counts zs h =
    let t : take (n + 1) (set counts n c) ≡ take n counts ++ c ∷ [] = rw add-one (take-suc-set counts n c h) in
    sym (append_assoc (take n counts) (c ∷ []) zs) ∙ ap (λ (m : List ℕ). m ++ zs) (sym t)

behind_count : (n c : ℕ) (counts : List ℕ) → drop 1 (drop n counts) ≡ drop (n + 1) (set counts n c)
behind_count n c counts = drop-drop 1 n counts ∙ sym (drop-set-lt (n + 1) counts n c (omega arith))

behind_behind : (n e c : ℕ) (times letters counts times' letters' : List ℕ) (x : Chart) → e ≤ length times → e ≤ length letters → n < length counts
    → behind n e times letters counts (behind 1 c times' letters' (c ∷ drop 1 (drop n counts)) x)
    ≡ behind (n + 1) (e + c) (take e times ++ times') (take e letters ++ letters') (set counts n c) x
unfolding behind
behind_behind n e c times letters counts times' letters' x ht hl hc =
    rw (two_fronts e c times times' x.times ht, two_fronts e c letters letters' x.letters hl, two_counts n c counts x.counts hc)
    (ap (λ (i : ℕ). record {
      stopped = x.stopped;
      served = i;
      events = e + (c + x.events);
      times = take (e + c) (take e times ++ times') ++ x.times;
      letters = take (e + c) (take e letters ++ letters') ++ x.letters;
      counts = take (n + 1) (set counts n c) ++ x.counts;
    }) (omega arith)
    ∙ ap (λ (i : ℕ). record {
      stopped = x.stopped;
      served = n + 1 + x.served;
      events = i;
      times = take (e + c) (take e times ++ times') ++ x.times;
      letters = take (e + c) (take e letters ++ letters') ++ x.letters;
      counts = take (n + 1) (set counts n c) ++ x.counts;
    }) (omega arith))

-- ---- what the code's loop keeps

pub record Serving (text list times₀ letters₀ counts₀ times letters counts : List ℕ) (at served events : ℕ) : Type 0 where
  pub rest : chart text (asked_in list) times₀ letters₀ counts₀
      ≡ behind served events times letters counts (chart text (asked_in (drop at list)) (drop events times) (drop events letters) (drop served counts))
  pub in_times : events ≤ length times
  pub in_letters : events ≤ length letters
  pub in_counts : served + length (asked_in (drop at list)) ≤ length counts
  pub few : served + length (asked_in (drop at list)) ≤ chart_most
  pub times_long : length times ≡ length times₀
  pub letters_long : length letters ≡ length letters₀
  pub counts_long : length counts ≡ length counts₀

module _ {text list times₀ letters₀ counts₀ : List ℕ} where
  pub serving_none : (length (asked_in list) ≤ chart_most) × (length (asked_in list) ≤ length counts₀) → Serving text list times₀ letters₀ counts₀ times₀ letters₀ counts₀ 0 0 0
  serving_none h = record {
    rest = behind_none times₀ letters₀ counts₀ (chart text (asked_in list) times₀ letters₀ counts₀);
    in_times = omega arith;
    in_letters = omega arith;
    in_counts = omega (arith, h.1);
    few = omega (arith, h.0);
    times_long = refl;
    letters_long = refl;
    counts_long = refl;
  }

  module _ {times letters counts : List ℕ} {at served events : ℕ} (s : Serving text list times₀ letters₀ counts₀ times letters counts at served events) where
    -- no number is left
    pub serving_all : length list ≤ at → Serves (chart text (asked_in list) times₀ letters₀ counts₀) times letters counts (record { stopped = None; served = served; events = events })
    unfolding asked_in chart
    serving_all h =
        record {
          is =
              s.rest
              ∙ ap (λ (l : List ℕ). behind served events times letters counts (chart text (asked_in l) (drop events times) (drop events letters) (drop served counts)))
              (drop_of_length-le list h)
              ∙ behind_over none served events times letters counts;
        }

    module _ (n : Next list at) where
      met : chart text (asked_in list) times₀ letters₀ counts₀
          ≡ behind served events times letters counts
          (chart text (n.first ∷ asked_in (drop (at + 3) list)) (drop events times) (drop events letters) (drop served counts))
      met = s.rest
          ∙ ap (λ (xs : List Asked). behind served events times letters counts (chart text xs (drop events times) (drop events letters) (drop served counts))) n.cut

      pub served_room : (served < length counts) × (served < chart_most)
      served_room = (omega (arith, s.in_counts, ap length n.cut), omega (arith, s.few, ap length n.cut))

      module _ {times' letters' : List ℕ} {o : Result ℕ ℕ}
          (d : Outlines (called text n.first (take (length times - events) (drop events times)) (take (length letters - events) (drop events letters)))
          (take (length times - events) (drop events times)) times' (take (length letters - events) (drop events letters)) letters' o) where
        -- on what is left of both buffers
        on_rest : Outlines (called text n.first (drop events times) (drop events letters)) (drop events times) times' (drop events letters) letters' o
        on_rest = rw (part_in times events, part_in letters events) at d

        -- one that is refused
        pub serving_stops : {n : ℕ} → o ≡ Err n
            → Serves (chart text (asked_in list) times₀ letters₀ counts₀) (take events times ++ (times' ++ drop (length times - events) (drop events times)))
            (take events letters ++ (letters' ++ drop (length letters - events) (drop events letters))) counts (record { stopped = Some n; served = served; events = events })
        serving_stops {n = refusal} h =
            let r = on_rest.refuses refusal h in
            record {
              is =
                  met
                  ∙ ap (behind served events times letters counts)
                  (chart_stops text n.first (asked_in (drop (at + 3) list)) (drop events times) (drop events letters) (drop served counts) r.0)
                  ∙ behind_over (some (refusal, 0)) served events times letters counts
                  ∙ rw (part_out events times times', part_out events letters letters', r.1, r.2, take-append-drop events times, take-append-drop events letters);
            }

        module _ {count : ℕ} (h : o ≡ Ok count) where
          pub count_fits : (events + count ≤ length times) × (events + count ≤ length letters)
          count_fits =
              let w = called_written text n.first (on_rest.gives count h) in
              (omega (arith, w.0.fits, length-drop events times, s.in_times), omega (arith, w.1.fits, length-drop events letters, s.in_letters))

          -- one that is served
          pub serving_more : length times' ≡ length (take (length times - events) (drop events times)) → length letters' ≡ length (take (length letters - events) (drop events letters))
              → Serving text list times₀ letters₀ counts₀ (take events times ++ (times' ++ drop (length times - events) (drop events times)))
              (take events letters ++ (letters' ++ drop (length letters - events) (drop events letters))) (set counts served count) (at + 3) (served + 1) (events + count)
          serving_more lt ll =
              let c = count in
              let kt = same_len_mid events (length times - events) times times' lt in
              let kl = same_len_mid events (length letters - events) letters letters' ll in
              let kc : length (set counts served c) ≡ length counts = length-set counts served c in
              record {
                rest = rw (part_out events times times', part_out events letters letters')
                    (met
                    ∙ ap (behind served events times letters counts)
                    (chart_served text n.first (asked_in (drop (at + 3) list)) (drop events times) (drop events letters) (drop served counts) (on_rest.gives count h))
                    ∙ behind_behind served events c times letters counts times' letters' _ s.in_times s.in_letters served_room.0
                    ∙ rw (behind_front events c times times' s.in_times, behind_front events c letters letters' s.in_letters, behind_count served c counts));
                in_times = omega (arith, kt, count_fits.0);
                in_letters = omega (arith, kl, count_fits.1);
                in_counts = omega (arith, kc, s.in_counts, ap length n.cut);
                few = omega (arith, s.few, ap length n.cut);
                times_long = kt ∙ s.times_long;
                letters_long = kl ∙ s.letters_long;
                counts_long = kc ∙ s.counts_long;
              }
