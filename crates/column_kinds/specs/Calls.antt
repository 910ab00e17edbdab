-- What the entry promises, for every listing, catalogue, work area and answer buffer: its number and length are the definition's call's, the
-- answer buffer holds what that leaves, the work area is zero, and the claims about the call hold. And what the call for Rattle promises, which
-- answers the length or the refusal. Assumes nothing.
use Rattle.std.specs.Prelude.{◌≡◌, List, ℕ, ◌+◌, ◌*◌, ◌≤◌, length, replicate, Result, Ok, Err, IfOk}
use Rattle.refusal.specs.Numbers.{number_of}
use Rattle.refusal.specs.declared.Refusal.{Refusal}
use Rattle.model.specs.Call.{call}
use Rattle.model.specs.CallClaims.{CallClaims}

pub record Calls (listing catalogue area area_then answer answer_then : List ℕ) (r : ℕ) : Type 0 where
  -- number × 4,294,967,296 + length
  pub result : r ≡ (call listing catalogue (length area) answer).number * 4294967296 + (call listing catalogue (length area) answer).size
  pub bytes : answer_then ≡ (call listing catalogue (length area) answer).answer
  pub zero : area_then ≡ replicate (length area) 0
  pub claims : CallClaims listing catalogue (length area) answer

-- the number of a refusal, and 0 where there is an answer
abbrev pub number_in : Result ℕ Refusal → ℕ
number_in (Err refusal) = number_of refusal
number_in (Ok n) = 0

-- the entry's number for what is answered
abbrev pub packed : Result ℕ Refusal → ℕ
packed (Err refusal) = number_of refusal * 4294967296
packed (Ok n) = n

-- what the entry promises, of what is answered: it is a refusal where the call is refused (`number`: `packed` alone would let a long length stand for
-- one), and a length counts bytes of the answer buffer
pub record Describes (listing catalogue area area_then answer answer_then : List ℕ) (r : Result ℕ Refusal) : Type 0 where
  pub calls : Calls listing catalogue area area_then answer answer_then (packed r)
  pub number : number_in r ≡ (call listing catalogue (length area) answer).number
  pub room : IfOk r (λ n. n ≤ length answer_then)
