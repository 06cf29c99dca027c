-- What the newest root of a disk has by itself, without a record of the log.
use Rattle.std.specs.Prelude.{◌≡◌, []}
use Rattle.sn_device.specs.Sectors.{Contents}
use Rattle.sn_image.specs.Image.{image}
use Rattle.sn_model.specs.Tree.{Tree}
use Rattle.sn_model.specs.World.{World}
use Rattle.sn_ondisk.specs.Trees.{store_of}
use Rattle.sn_held.specs.Images.{IsImage}

-- The contents are an image of this world, whose newest root has this tree, and nothing is logged on top of it.
pub record IsInItsRoot (tree : Tree) (world : World) (c : Contents) : Type 0 where
  pub is : IsImage c world
  pub live : image (store_of c) is.opens.root.inode_file ≡ tree
  pub older : is.opens.older ≡ []
  pub newer : is.opens.newer ≡ []
