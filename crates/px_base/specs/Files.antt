-- Files by name, where a shelf is observable, and bytes that are written.
use Rattle.std.specs.Prelude.{◌≡◌, ℕ, ◌++◌, Bool, true, false, List, [], ◌∷◌, ⊤, Option, None, Some, IsSome, bytes_eq, if◌then◌else◌}

-- a file, by its name and all of its bytes
pub record File : Type 0 where
  -- its name
  pub name : List ℕ
  -- all of its bytes
  pub bytes : List ℕ

-- what the first file of that name holds
abbrev pub content_of : List File → List ℕ → Option (List ℕ)
content_of [] name = None
content_of (f ∷ fs) name = if bytes_eq f.name name then Some f.bytes else content_of fs name

-- Observable files hold the name exactly where it was found, and then all of that file is left to read.
abbrev pub Finds : Option (List File) → List ℕ → Bool → Option (List ℕ) → Type 0
Finds None name found left = ⊤
Finds (Some files) name true left = IsSome left × (left ≡ content_of files name)
Finds (Some files) name false left = content_of files name ≡ None

-- some prefix of the bytes was written behind those that are known
abbrev pub AppendsPrefix : Option (List ℕ) → Option (List ℕ) → List ℕ → Type 0
AppendsPrefix None new bytes = ⊤
AppendsPrefix (Some xs) None bytes = ⊥
AppendsPrefix (Some xs) (Some ys) bytes = (prefix : List ℕ) × (rest : List ℕ) × (bytes ≡ prefix ++ rest) × (ys ≡ xs ++ prefix)
