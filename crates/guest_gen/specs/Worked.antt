-- A guest computed by the definitions. Worked examples alone cite it.
use Rattle.std.specs.Prelude.{◌≡◌, [], ◌∷◌}
use Rattle.guest_gen.specs.Blocks.{drawn, kind_at}
use Rattle.guest_gen.specs.Texts.{guest_text, guest_starts, guest_sites}

-- the guest of 0 with one block: it is drawn as 0x14057B7E, of kind 14
pub record IsWorked : Type 0 where
  pub draw : drawn 0 ≡ 0x14057b7e
  pub kind : kind_at 0 ≡ 14
  pub text : guest_text 0 1 ≡ 0xc3 ∷ 0x48 ∷ 0x8d ∷ 0x4c ∷ 0x01 ∷ 0x04 ∷ 0xe9 ∷ 0xf6 ∷ 0xff ∷ 0xff ∷ 0xff ∷ []
  pub starts : guest_starts 0 1 ≡ 0x401000 ∷ 0x401001 ∷ 0x401006 ∷ []
  pub sites : guest_sites 0 1 ≡ 0x401001 ∷ []
