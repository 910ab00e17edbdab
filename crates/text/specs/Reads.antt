-- Reading a text from its front: what is read and what is left are what model's reader gives, or nothing is read, where that gives nothing.
-- Assumes nothing.
use Rattle.std.specs.Prelude.{◌≡◌, List, ℕ, ◌<◌, length, Option, None, Some, OnSome}
use Rattle.model.specs.Reader.{Reader, ◌then◌}

-- what was read, beside what is left
abbrev pub with_rest : {A : Type 0} → List ℕ → Option A → Option (A × List ℕ)
with_rest rest o = o then λ a. Some (a, rest)

-- of the text t, o was read, and `rest` is left: a shorter text
pub record Reads {A : Type 0} (r : Reader A) (t rest : List ℕ) (o : Option A) : Type 0 where
  pub is : with_rest rest o ≡ r t
  pub shorter : OnSome o (length rest < length t)

-- and where nothing was read, the text is as it was
pub record ReadsOrKeeps {A : Type 0} (r : Reader A) (t rest : List ℕ) (o : Option A) : Type 0 where
  pub reads : Reads r t rest o
  pub kept : o ≡ None → rest ≡ t
