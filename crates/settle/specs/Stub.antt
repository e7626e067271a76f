-- The stub of a settled file: it walks the kernel's vector, tells the program its own table and its own entry, and goes to that entry. Theorems
-- cite it. (Intel SDM, volume 2, JCXZ/JECXZ/JRCXZ, JMP, LEA, MOV.) No instruction of it changes a flag or asks the kernel. It uses rcx and rdi,
-- and leaves 0 in both.
use Rattle.std.specs.Prelude.{ℕ, ◌+◌, ◌-◌, ◌%◌, ◌^◌, List, [], ◌∷◌, ◌++◌}
use Rattle.std.specs.Int.{to_le_bytes, w32}

-- the four bytes of a number
abbrev pub four : ℕ → List ℕ
four n = to_le_bytes w32 n

-- MOV rcx, [rsp]: how many arguments there are
abbrev pub read_count : List ℕ
read_count = 0x48 ∷ 0x8b ∷ 0x0c ∷ 0x24 ∷ []

-- LEA rdi, [rsp + 8 rcx + 16]: behind them and the 0 that ends them
abbrev pub to_variables : List ℕ
to_variables = 0x48 ∷ 0x8d ∷ 0x7c ∷ 0xcc ∷ 0x10 ∷ []

-- MOV rcx, [rdi]
abbrev pub read_word : List ℕ
read_word = 0x48 ∷ 0x8b ∷ 0x0f ∷ []

-- LEA rdi, [rdi + n]
abbrev pub go_on : ℕ → List ℕ
go_on n = 0x48 ∷ 0x8d ∷ 0x7f ∷ n ∷ []

-- LEA rcx, [rcx + n]
abbrev pub less : ℕ → List ℕ
less n = 0x48 ∷ 0x8d ∷ 0x49 ∷ n ∷ []

-- JRCXZ
abbrev pub if_zero : ℕ → List ℕ
if_zero n = 0xe3 ∷ n ∷ []

-- JMP rel8
abbrev pub jump : ℕ → List ℕ
jump n = 0xeb ∷ n ∷ []

-- MOV qword [rdi + 8], imm32
abbrev pub tell : ℕ → List ℕ
tell n = 0x48 ∷ 0xc7 ∷ 0x47 ∷ 0x08 ∷ four n

-- MOV edi, imm32
abbrev pub set_rdi : ℕ → List ℕ
set_rdi n = 0xbf ∷ four n

-- the loop over the variables, 20 - 9 bytes, at 9
abbrev pub variables : List ℕ
variables = read_word ++ (go_on 8 ++ (if_zero 0x02 ++ jump 0xf5))

-- the loop over the entries, at 20: a key of 0 ends it, 3, 5 and 9 are told
abbrev pub entries : List ℕ
entries = read_word ++ (if_zero 0x36 ++ (less 0xfd ++ (if_zero 0x12 ++ (less 0xfe ++ (if_zero 0x16 ++ (less 0xfc ++ (if_zero 0x1a ++ (go_on 16 ++ jump 0xe3))))))))

-- what is told, at 49: the table's address (AT_PHDR), its number of entries (AT_PHNUM), and the entry (AT_ENTRY)
abbrev pub telling : ℕ → ℕ → ℕ → List ℕ
telling phdr phnum entry = tell phdr ++ (jump 0xf0 ++ (tell phnum ++ (jump 0xe6 ++ (tell entry ++ jump 0xdc))))

-- JMP rel32, from a place to a target
abbrev pub go_to : ℕ → ℕ → List ℕ
go_to place target = 0xe9 ∷ four ((target + 2 ^ 32 - (place + 5)) % 2 ^ 32)

-- the stub at an address: 89 bytes
unfoldable pub stub_code : ℕ → ℕ → ℕ → ℕ → List ℕ
stub_code at phdr phnum entry =
    read_count ++ (to_variables ++ (variables ++ (entries ++ (telling phdr phnum entry ++ (set_rdi 0 ++ go_to (at + 84) entry)))))
