-- The totals behind the ends of an option, of a sheet that passes the checks. They leave room (`ahead_room`) and none is taken for no total
-- (`ahead_sums`), so they are what the choice asks (`words_fit`, `words_behind`). At T nothing is added (`ahead_last`); the total behind the ends of a
-- year before T can be written (`look_room`), and then it is held (`look_held`). Assumes nothing.
use Prim.Native.Nat.{ℕ, ◌+◌, ◌-◌, ◌*◌, ◌^◌, ◌≤◌, ◌<◌}
use mathlib.Core.Path.{◌≡◌, refl, ap, sym, subst, ◌∙◌}
use mathlib.Core.List.{List}
use native.Mathlib.Omega.{arith}
use lib.ListN.{length, set}
use lib.Seq.{get_or-set_same}
use Rattle.base.proofs.StoreLaws.{written_more}
use Rattle.sheet.specs.Layout.{year_places}
use Rattle.sheet.specs.Sheet.{PlanningSheet}
use Rattle.sheet.specs.Parsed.{parsed}
use Rattle.sheet.specs.declared.Sheet.{Sheet}
use Rattle.sheet.proofs.ParsedLaws.{horizon_read}
use Rattle.checking.specs.Fit.{Fit, SheetFits}
use Rattle.steps.specs.Fit.{largest_payment}
use Rattle.costing.specs.Fit.{yearly}
use Rattle.costing.specs.declared.Kept.{Kept}
use Rattle.choice.specs.Running.{no_total}
use Rattle.streams.specs.Streams.{removal_on, StreamsOf}
use Rattle.weighing.specs.Ends.{word_of, WordsFit, WordsBehind}
use Rattle.weighing.specs.Ahead.{ahead_of, adds_at}
use Rattle.weighing.proofs.AheadLaws.{ahead_none, ahead_some, ahead_zero}
use Rattle.weighing.proofs.SheetEndLaws.{adds_le, adds_last, adds_read}
use Rattle.tails.specs.Tail.{tail_from}
use Rattle.tails.specs.Writing.{AheadHeld}
use Rattle.tails.proofs.TailLaws.{tail_last, tail_le}

module _ (p : PlanningSheet) (fit : Fit (parsed p)) (option : ℕ) (known : option ≤ 2) (e : ℕ) (inside : e ≤ p.horizon)
    (some : (tail_from p e).total ≡ no_total → ⊥) where
  pub ahead_room : (tail_from p e).total + adds_at p option e ≤ (p.horizon - e) * yearly + largest_payment
  ahead_room = omega (arith, tail_le p fit e inside some, adds_le p fit option known e)

  pub ahead_sums : (tail_from p e).total + adds_at p option e ≡ no_total → ⊥
  ahead_sums q = omega (arith, ahead_room, fit.horizon_high, horizon_read (parsed p) p refl)

module _ (s : Sheet) (some : SheetFits s) (option : ℕ) (known : option ≤ 2) where
  -- of the planning sheet that it is the parsed form of
  passed : Fit (parsed some.sheet)
  passed = subst Fit some.read some.fit

  same : s.horizon ≡ some.sheet.horizon
  same = horizon_read s some.sheet some.read

  pub words_fit : (y : ℕ) (ahead : List ℕ) → AheadHeld option s (y + 1) ahead → WordsFit s.horizon y ahead
  words_fit y ahead held e late inside there =
      let p = some.sheet in
      let more = adds_at p option e in
      let word = held p some.read e (omega arith) (omega (arith, same)) in
      let total : (tail_from p e).total ≡ no_total → ⊥ = λ q. there (word ∙ ahead_none (tail_from p e).total more q) in
      rw (word, ahead_some (tail_from p e).total more total, same) (ahead_room p passed option known e (omega (arith, same)) total)

  pub words_behind :
      (a : Kept) (ahead : List ℕ) → a.from ≤ s.horizon → year_places ≤ length ahead → AheadHeld option s (a.from + 1) ahead
      → WordsBehind a s.horizon ahead
  words_behind a ahead early room held =
      record {
        early = early;
        far = some.fit.horizon_high;
        room = omega (arith, some.fit.horizon_high);
        fits = words_fit a.from ahead held;
      }

  pub ahead_last : (ahead : List ℕ) → s.horizon < length ahead → AheadHeld option s s.horizon (set ahead s.horizon 0)
  ahead_last ahead room p read e l u =
      let T = horizon_read s p read in
      let end : e ≡ s.horizon = omega (arith, T) in
      let none : ahead_of (tail_from p p.horizon).total (adds_at p option p.horizon) ≡ 0 =
      rw (adds_last p option, tail_last p) (ahead_zero 0) in
      ap (word_of (set ahead s.horizon 0)) end ∙ get_or-set_same ahead s.horizon 0 0 room ∙ sym none
      ∙ ap (λ (e : ℕ). ahead_of (tail_from p e).total (adds_at p option e)) (sym T ∙ sym end)

  -- the total behind the ends of a year before T, made from the word of the year and the stream of removal
  module _ (streams : List ℕ) (lent : StreamsOf s option streams) (y : ℕ) (early : y < s.horizon) (words : List ℕ)
      (word : (p : PlanningSheet) → s ≡ parsed p → word_of words y ≡ (tail_from p y).total) where
    pub look_room : (word_of words y ≡ no_total → ⊥) → word_of words y + removal_on streams y < 2 ^ 64
    look_room there =
        let p = some.sheet in
        let here = word p some.read in
        rw (here, adds_read p s some.read option known streams lent y early)
        (omega (arith, ahead_room p passed option known y (omega (arith, same)) (λ q. there (here ∙ q)), same, some.fit.horizon_high))

    pub look_held :
        (ahead ahead' : List ℕ) → y < length ahead → AheadHeld option s (y + 1) ahead
        → ahead' ≡ set ahead y (ahead_of (word_of words y) (removal_on streams y)) → AheadHeld option s y ahead'
    look_held ahead ahead' room later written p read e l u =
        let here = word p read in
        let more = adds_read p s read option known streams lent y early in
        rw written
        (written_more (λ e. e) (λ e. ahead_of (tail_from p e).total (adds_at p option e)) (λ e. (y + 1 ≤ e) × (e ≤ p.horizon))
        (λ e. (y ≤ e) × (e ≤ p.horizon)) ahead y room (λ i. ahead_of (here i) (more i)) (λ e d. d) (λ e h d. (omega (arith, h.0), h.1))
        (λ e h. later p read e h.0 h.1) e (l, u))
