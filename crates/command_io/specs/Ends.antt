-- What is printed of a file that couldn't be read or written. Theorems cite it.
use Rattle.std.specs.Prelude.{ℕ, List, ◌++◌, codes}

-- Each line ends with LF (10).
unfoldable pub read_fault_text : List ℕ → List ℕ
read_fault_text name = codes "fault read " ++ name ++ codes "\n"

unfoldable pub write_fault_text : List ℕ → List ℕ
write_fault_text name = codes "fault write " ++ name ++ codes "\n"
