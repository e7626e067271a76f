-- The stub's code, by parts, and the records of the runs that it maps. Theorems cite it. (Intel SDM, volume 2, CWD/CDQ/CQO, HLT,
-- JCXZ/JECXZ/JRCXZ, JMP, LEA, MOV, SYSCALL.) Numbers are little endian. None of its instructions changes a flag, so that none has to be
-- saved.
use Rattle.std.specs.Prelude.{◌≡◌, ℕ, ◌+◌, ◌*◌, ◌-◌, ◌^◌, List, [], ◌∷◌, ◌++◌, length}
use Rattle.cpu_state.specs.Bytes.{bytes_of}
use Rattle.relocate_insn.specs.Pieces.{four, jump_through}
pub use Rattle.loader_form.specs.declared.used.Used.{Used}
pub use Rattle.loader_form.specs.declared.used.Used.TheVariants.{Rax, Rcx, Rdx, Rbx, Rsi, Rdi, Reg8, Reg9, Reg10, Reg11}

-- The code of a register that the stub uses, as REX and ModRM spell it.
abbrev pub code_of : Used → ℕ
code_of Rax = 0
code_of Rcx = 1
code_of Rdx = 2
code_of Rbx = 3
code_of Rsi = 6
code_of Rdi = 7
code_of Reg8 = 8
code_of Reg9 = 9
code_of Reg10 = 10
code_of Reg11 = 11

-- the REX byte of a MOV between a register and memory
abbrev pub rex_byte : Used → ℕ
rex_byte Rax = 0x48
rex_byte Rcx = 0x48
rex_byte Rdx = 0x48
rex_byte Rbx = 0x48
rex_byte Rsi = 0x48
rex_byte Rdi = 0x48
rex_byte Reg8 = 0x4c
rex_byte Reg9 = 0x4c
rex_byte Reg10 = 0x4c
rex_byte Reg11 = 0x4c

-- the ModRM byte of a MOV between a register and memory
abbrev pub modrm_byte : Used → ℕ
modrm_byte Rax = 0x04
modrm_byte Rcx = 0x0c
modrm_byte Rdx = 0x14
modrm_byte Rbx = 0x1c
modrm_byte Rsi = 0x34
modrm_byte Rdi = 0x3c
modrm_byte Reg8 = 0x04
modrm_byte Reg9 = 0x0c
modrm_byte Reg10 = 0x14
modrm_byte Reg11 = 0x1c

-- MOV [a], r
abbrev pub store : Used → ℕ → List ℕ
store r a = rex_byte r ∷ 0x89 ∷ modrm_byte r ∷ 0x25 ∷ four a

-- MOV r, [a]
abbrev pub load : Used → ℕ → List ℕ
load r a = rex_byte r ∷ 0x8b ∷ modrm_byte r ∷ 0x25 ∷ four a

-- the registers that the stub uses, in their order in the save page
abbrev pub used : List Used
used = Rax ∷ Rcx ∷ Rdx ∷ Rbx ∷ Rsi ∷ Rdi ∷ Reg8 ∷ Reg9 ∷ Reg10 ∷ Reg11 ∷ []

-- MOV [a], r for each register, eight bytes further each time
abbrev pub stores : ℕ → List Used → List ℕ
stores a [] = []
stores a (r ∷ rs) = store r a ++ stores (a + 8) rs

-- MOV r, [a] for each register, eight bytes further each time
abbrev pub loads : ℕ → List Used → List ℕ
loads a [] = []
loads a (r ∷ rs) = load r a ++ loads (a + 8) rs

-- REX and opcode of MOV r, imm32
abbrev pub set_front : Used → List ℕ
set_front Rax = []
set_front Rcx = []
set_front Rdx = []
set_front Rbx = []
set_front Rsi = []
set_front Rdi = []
set_front Reg8 = 0x41 ∷ []
set_front Reg9 = 0x41 ∷ []
set_front Reg10 = 0x41 ∷ []
set_front Reg11 = 0x41 ∷ []

-- the opcode of MOV r, imm32
abbrev pub set_opcode : Used → ℕ
set_opcode Rax = 0xb8
set_opcode Rcx = 0xb9
set_opcode Rdx = 0xba
set_opcode Rbx = 0xbb
set_opcode Rsi = 0xbe
set_opcode Rdi = 0xbf
set_opcode Reg8 = 0xb8
set_opcode Reg9 = 0xb9
set_opcode Reg10 = 0xba
set_opcode Reg11 = 0xbb

-- MOV r, n, of 32 bits
abbrev pub put_in : Used → ℕ → List ℕ
put_in r n = set_front r ++ (set_opcode r ∷ four n)

-- SYSCALL
abbrev pub call_kernel : List ℕ
call_kernel = 0x0f ∷ 0x05 ∷ []

-- CQO: the sign of rax fills rdx
abbrev pub spread_sign : List ℕ
spread_sign = 0x48 ∷ 0x99 ∷ []

-- MOV ecx, edx: after CQO rcx is then 0 exactly where rax is no negative number
abbrev pub sign_to_ecx : List ℕ
sign_to_ecx = 0x89 ∷ 0xd1 ∷ []

-- JRCXZ over n bytes
abbrev pub if_zero : ℕ → List ℕ
if_zero n = 0xe3 ∷ n ∷ []

-- JMP rel8
abbrev pub go_back : ℕ → List ℕ
go_back n = 0xeb ∷ n ∷ []

-- open("/proc/self/exe", O_RDONLY), 23 bytes; then a jump over the 13 bytes of the exit, unless it
-- fails
abbrev pub opening : ℕ → List ℕ
opening text = put_in Rax 2 ++ (put_in Rdi text ++ (put_in Rsi 0 ++ (call_kernel ++ (spread_sign ++ (sign_to_ecx ++ if_zero 13)))))

-- exit_group(127), and HLT, which isn't reached
abbrev pub exiting : List ℕ
exiting = put_in Rdi 127 ++ (put_in Rax 231 ++ (call_kernel ++ 0xf4 ∷ []))

-- MOV r8, rax: the open file's number
abbrev pub number_to_r8 : List ℕ
number_to_r8 = 0x49 ∷ 0x89 ∷ 0xc0 ∷ []

-- the open file's number to r8, the first record to rbx, and MAP_PRIVATE with MAP_FIXED to r10
abbrev pub preparing : ℕ → List ℕ
preparing first = number_to_r8 ++ (put_in Rbx first ++ put_in Reg10 0x12)

-- LEA ecx, [rbx - end]
abbrev pub to_the_end : ℕ → List ℕ
to_the_end end = 0x8d ∷ 0x8b ∷ four (2 ^ 32 - end)

-- the loop's head: a jump over the 33 bytes of the loop's body, where rbx is at the records' end
abbrev pub looking : ℕ → List ℕ
looking end = to_the_end end ++ if_zero 33

-- MOV edi, [rbx]
abbrev pub read_place : List ℕ
read_place = 0x8b ∷ 0x3b ∷ []

-- MOV esi, [rbx + 4]
abbrev pub read_size : List ℕ
read_size = 0x8b ∷ 0x73 ∷ 0x04 ∷ []

-- MOV r9, [rbx + 8]
abbrev pub read_offset : List ℕ
read_offset = 0x4c ∷ 0x8b ∷ 0x4b ∷ 0x08 ∷ []

-- LEA rbx, [rbx + 16]
abbrev pub next_record : List ℕ
next_record = 0x48 ∷ 0x8d ∷ 0x5b ∷ 0x10 ∷ []

-- mmap with PROT_READ and PROT_EXEC; then a jump to the loop's head, 39 bytes back, or to the exit,
-- 68 bytes back
abbrev pub mapping : List ℕ
mapping =
    read_place ++ (read_size ++ (read_offset ++ (put_in Rdx 5 ++ (put_in Rax 9 ++ (call_kernel
    ++ (next_record ++ (spread_sign ++ (sign_to_ecx ++ (if_zero 0xd9 ++ go_back 0xbc)))))))))

-- MOV rdi, r8
abbrev pub number_to_rdi : List ℕ
number_to_rdi = 0x4c ∷ 0x89 ∷ 0xc7 ∷ []

-- close of the open file's number
abbrev pub closing : List ℕ
closing = put_in Rax 3 ++ (number_to_rdi ++ call_kernel)

-- JMP [a], where the entry's eight bytes stand right after the jump
abbrev pub leaving : ℕ → ℕ → List ℕ
leaving at entry = jump_through (at + 7) ++ bytes_of 8 entry

-- One run of pages that go up by one, in memory and in the file.
pub record Run : Type 0 where
  pub place : ℕ
  pub size : ℕ
  pub offset : ℕ

-- Where the stub stands, what it maps, and where it goes.
pub record Stub : Type 0 where
  pub at : ℕ
  pub save : ℕ
  pub runs : List Run
  pub entry : ℕ

-- the path "/proc/self/exe", with zeros after it up to 16 bytes
abbrev pub path : List ℕ
path = 0x2f ∷ 0x70 ∷ 0x72 ∷ 0x6f ∷ 0x63 ∷ 0x2f ∷ 0x73 ∷ 0x65 ∷ 0x6c ∷ 0x66 ∷ 0x2f ∷ 0x65 ∷ 0x78 ∷ 0x65 ∷ 0 ∷ 0 ∷ []

-- a run's record: 16 bytes
abbrev pub record_of : Run → List ℕ
record_of r = bytes_of 4 r.place ++ (bytes_of 4 r.size ++ bytes_of 8 r.offset)

-- the records of runs, one after the other
abbrev pub records_of : List Run → List ℕ
records_of [] = []
records_of (r ∷ rs) = record_of r ++ records_of rs

-- where the path begins
abbrev pub path_at : Stub → ℕ
path_at b = b.at + 4096

-- where the records begin
abbrev pub records_at : Stub → ℕ
records_at b = b.at + 4112

-- where the records end
abbrev pub end_of : Stub → ℕ
end_of b = b.at + 4112 + 16 * length b.runs

-- the code of the stub: 276 bytes
abbrev pub stub_code : Stub → List ℕ
stub_code b =
    stores b.save used
    ++ (opening (path_at b)
    ++ (exiting ++ (preparing (records_at b) ++ (looking (end_of b) ++ (mapping ++ (closing ++ (loads b.save used ++ leaving (b.at + 261) b.entry)))))))

-- The stub's code has 276 bytes.
abbrev pub HasStubLength : Type 0
HasStubLength = (b : Stub) → length (stub_code b) ≡ 276
