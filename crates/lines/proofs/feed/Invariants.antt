-- `lines::feed` meets its contract, since the bytes passed were read, what they leave of a line is held, and before each there was
-- room for a line.
use Rattle.std.proofs.Common.{ℕ, List, ◌≡◌, ◌≤◌, length}
use lib.ListN.{take}
use Rattle.lines.specs.Feed.{hand, Holds, after, Read}
use Rattle.lines.proofs.feed.Given as goal

pub record Inv (block word₀ : List ℕ) (held : ℕ) (out₀ word out : List ℕ) (used wrote count : ℕ) : Type 0 where
  pub passed : used ≤ length block
  pub fits : wrote ≤ length out₀
  pub out_long : length out ≡ length out₀
  pub held_is : hand count word ≡ after (take used block) (hand held word₀)
  pub read : (p : List ℕ) → Holds p (hand held word₀) → Read p block out₀ used wrote out

abbrev pub invariant-loop-used : goal.invariant-loop-used
invariant-loop-used l = Inv l.block l.initial.word l.fn.held l.initial.out l.word l.out l.used l.wrote l.count
