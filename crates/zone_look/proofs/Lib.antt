mod Chains
mod FreeLists
mod OneAnswer
