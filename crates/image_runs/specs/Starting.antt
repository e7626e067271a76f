-- The state from which a file runs under a script. Theorems cite it.
use Rattle.std.specs.Prelude.{ℕ, ◌+◌, ◌*◌, Bool, ◌&&◌, nat_lt, if◌then◌else◌, List, [], ◌∷◌, replicate, Option, None}
use Rattle.std.specs.List.{list_any}
use Rattle.pun_base.specs.Memory.{Bytes, joined}
use Rattle.cpu_alu.specs.FlagWord.{unpacked}
use Rattle.cpu_state.specs.declared.script.Script.{Script}
use Rattle.cpu_state.specs.declared.script_regions.RegionBody.{RegionBody}
use Rattle.cpu_state.specs.declared.script_regions.RegionBody.TheVariants.{Zeros, Bytes as Listed}
use Rattle.cpu_state.specs.declared.script_regions.Region.{Region}
use Rattle.cpu_state.specs.Adding.{laid, lower}
use Rattle.cpu_state.specs.Script.{body_size}
use Rattle.elf_read.specs.declared.segment.Segment.{Segment}
use Rattle.elf_read.specs.Entries.{entry_of, loads, segments}
use Rattle.elf_read.specs.Image.{image_of}
use Rattle.elf_read.specs.Refusals.{first_page, last_page}
use Rattle.insn_form.specs.Machine.{Machine}

-- The bytes of a region.
abbrev pub bytes_in : RegionBody → List ℕ
bytes_in (Zeros n) = replicate n 0
bytes_in (Listed bs) = bs

-- The memory of one region: its bytes from where it begins, with its permissions.
abbrev pub region_memory : Region → Bytes
region_memory r = laid r.lo r.perms (bytes_in r.body)

-- The memory of regions.
abbrev pub regions_memory : List Region → Bytes
regions_memory [] a = None
regions_memory (r ∷ rs) a = joined (region_memory r) (regions_memory rs) a

-- The script's values, the file's entry point, its image and the regions, and all entries of the world.
abbrev pub start_machine : List ℕ → Script → Machine
start_machine file s = record {
  core = record { regs = s.regs; flags = unpacked s.flags; fs = s.fs; gs = s.gs };
  rip = entry_of file;
  mem = joined (image_of file) (regions_memory s.regions);
  world = s.world.entries;
}

-- A region has an address in a page of a segment.
abbrev pub meets_page : Region → Segment → Bool
meets_page r s = nat_lt (first_page s * 4096) (r.lo + body_size r.body) && nat_lt r.lo ((last_page s + 1) * 4096)

-- A region has an address in a page of one of these segments.
abbrev pub meets_image : List Segment → Region → Bool
meets_image ss r = list_any (meets_page r) ss

-- The least beginning of the regions that have an address in a page of a segment.
abbrev pub least_meeting : List Segment → List Region → Option ℕ
least_meeting ss [] = None
least_meeting ss (r ∷ rs) = if meets_image ss r then lower r.lo (least_meeting ss rs) else least_meeting ss rs

-- The least beginning of the regions that have an address in a page of a file's segments.
abbrev pub least_met_of : List ℕ → List Region → Option ℕ
least_met_of file rs = least_meeting (loads (segments file)) rs
