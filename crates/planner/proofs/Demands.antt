-- The promises of planning hold of what its definitions answer and leave, for every sheet and all buffers: each in the order of
-- `specs/Promises`, which says what they mean, then all of them (`promised`) and those of the count (`promised_count`). So a call that meets its
-- equations meets them (`promised_of`, `counted_of`, `plan_answers`). Why they hold is in `WayLaws`, `DoneLaws` and `LeftLaws`. Assumes nothing.
use Prim.Native.Nat.{ℕ}
use mathlib.Core.Path.{◌≡◌, refl}
use mathlib.Core.List.{List}
use native.Mathlib.Omega.{arith}
use lib.Dec.{eqb}
use borrow.Author.Tests.{eqb-true, eqb-false}
use Rattle.base.specs.declared.Answer.{Answer}
use Rattle.base.proofs.TestLaws.{by_test}
use Rattle.sheet.specs.Sheet.{sheet_of}
use Rattle.checking.proofs.PassesLaws.{checked-iff}
use Rattle.checking.proofs.FitLaws.{fit}
use Rattle.chain.specs.Counting.{arcs_offered}
use Rattle.chain.proofs.CountingLaws.{arcs-offered-le}
use Rattle.tails.proofs.WordLaws.{words_cheapest_of_passes}
use Rattle.planning.specs.Planning.{found, plan_answer, plan_after, words_after, plan_weighed}
use Rattle.planning.proofs.PlanningLaws.{words_lent, count_accepted, count_refused}
use Rattle.planner.specs.Promises.{CheckedFirst, RefusedTen, RefusedEleven, RefusedTwelve, AcceptedWhen, AmpleAccepted, ReturnsChosen, LendsCheapest, PricedAsPrinted, PrintedNear, NoneFarBelow, Leaves, Promised, PromisedCount}
use Rattle.planner.proofs.WayLaws.{way, way_checked, ten_when, eleven_when, twelve_when, zero_when, ample_when, ten_of, eleven_of, twelve_of}
use Rattle.planner.proofs.DoneLaws.{done, done_returned, done_priced, done_near, done_far}
use Rattle.planner.proofs.LeftLaws.{way_leaves}

module _ (s plan words : List ℕ) where
  abbrev answer : Answer
  answer = plan_answer s plan words

  abbrev plan' : List ℕ
  plan' = plan_after s plan words

  abbrev words' : List ℕ
  words' = words_after s plan words

  -- a faulty sheet is answered as `check` answers it
  pub checked_first : CheckedFirst s answer
  checked_first = way_checked (way s plan words)

  -- 10, 11 and 12, each exactly when, and 0 otherwise
  pub refused_ten : RefusedTen s words answer.number
  refused_ten = (ten_of (way s plan words), ten_when s plan words)

  pub refused_eleven : RefusedEleven s words answer.number
  refused_eleven = (eleven_of (way s plan words), eleven_when s plan words)

  pub refused_twelve : RefusedTwelve s plan words answer.number
  refused_twelve = (twelve_of (way s plan words), twelve_when s plan words)

  pub accepted_when : AcceptedWhen s plan words answer.number
  accepted_when = (λ e. let d = done s plan words e in (d.ready, (found (sheet_of s), (d.chosen, d.room))), zero_when s plan words)

  pub ample_accepted : AmpleAccepted s plan words answer.number
  ample_accepted h room = ample_when s plan words h (omega arith)

  -- the chain in the written plan, and its total
  pub returns_chosen : ReturnsChosen s answer.number answer.total plan'
  returns_chosen e = done_returned s plan words (done s plan words e)

  -- the words
  pub lends_cheapest : LendsCheapest s words words'
  lends_cheapest h =
      let lent = words_lent s plan words ((checked-iff s).1 h.passes) h.enough in
      rw lent (words_cheapest_of_passes s h.passes words h.enough)

  -- pricing what was written
  pub priced_as_printed : PricedAsPrinted s answer.number answer.total plan'
  priced_as_printed e = done_priced s plan words (done s plan words e) refl

  -- against exact values
  pub printed_near : PrintedNear s answer.number answer.total plan'
  printed_near e = done_near s plan words (done s plan words e) refl

  pub none_far_below : NoneFarBelow s answer.number plan'
  none_far_below e = done_far s plan words (done s plan words e) refl

  -- what is left
  pub leaves : Leaves answer.number plan words plan' words'
  leaves = way_leaves (way s plan words)

  -- all of them
  pub promised : Promised s plan words (plan_answer s plan words) (plan_after s plan words) (words_after s plan words)
  promised =
      record {
        first = checked_first;
        ten = refused_ten;
        eleven = refused_eleven;
        twelve = refused_twelve;
        accepted = accepted_when;
        ample = ample_accepted;
        chosen = returns_chosen;
        cheapest = lends_cheapest;
        priced = priced_as_printed;
        near = printed_near;
        far = none_far_below;
        left = leaves;
      }

  -- how many arcs were weighed, of which a sheet that passes offers only so many
  weighed_offered : answer.number ≡ 0 → plan_weighed s plan words ≡ arcs_offered (sheet_of s)
  unfolding plan_weighed
  weighed_offered = count_accepted answer (sheet_of s)

  weighed_refused : (answer.number ≡ 0 → ⊥) → plan_weighed s plan words ≡ 0
  unfolding plan_weighed
  weighed_refused = count_refused answer (sheet_of s)

  pub promised_count : PromisedCount s (plan_answer s plan words).number (plan_weighed s plan words)
  promised_count =
      record {
        offered = weighed_offered;
        refused = weighed_refused;
        few =
            by_test (eqb answer.number 0)
            (λ t.
            let e = eqb-true answer.number 0 t in
            omega (arith, weighed_offered e, arcs-offered-le (sheet_of s) (fit s (done s plan words e).ready.passes)))
            (λ t. omega (arith, weighed_refused (eqb-false answer.number 0 t)));
      }

  -- of whatever equals what was answered, left and counted
  counted_of : {a : Answer} {arcs : ℕ} → a ≡ plan_answer s plan words → arcs ≡ plan_weighed s plan words → PromisedCount s a.number arcs
  counted_of e n = rw (e, n) promised_count

  module _ {a : Answer} {plan'' words'' : List ℕ} where
    pub promised_of :
        a ≡ plan_answer s plan words → plan'' ≡ plan_after s plan words → words'' ≡ words_after s plan words → Promised s plan words a plan'' words''
    promised_of e b w = rw (e, b, w) promised

    pub plan_answers :
        (a ≡ plan_answer s plan words) × (plan'' ≡ plan_after s plan words) × (words'' ≡ words_after s plan words)
        → (a ≡ plan_answer s plan words)
        × ((plan'' ≡ plan_after s plan words) × ((words'' ≡ words_after s plan words) × Promised s plan words a plan'' words''))
    plan_answers h = (h.0, (h.1, (h.2, promised_of h.0 h.1 h.2)))
